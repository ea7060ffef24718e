use Rattle.std.proofs.Common.{[], ap, get_or, refl, subst, sym, ◌++◌, ◌∙◌, ◌≡◌}
use Rattle.poly_tasks.specs.declared.base.Base.{Base}
use Rattle.poly_tasks.specs.Meaning.{AreExcerpts, base_of, excerpts_of}
use Rattle.poly_tasks.proofs.Basing.{base_listed, base_listed_is}
use Rattle.poly_tasks.proofs.base.as_list.Goals as goal

pub append_excerpts-requires : goal.append_excerpts-requires
append_excerpts-requires c = subst (λ xs. AreExcerpts c.args.log.now xs) (sym c.deref.ensures.value) c.requires.excerpts

pub returns-clause-base : goal.returns-clause-base
returns-clause-base c =
    let log = c.args.log.now in
    let b = c.args.base.now in
    let first = get_or b.lists b.index [] in
    let is : first ++ c.deref-2.result.now ≡ base_of log b =
    ap (λ A. first ++ A) (c.deref-2.ensures.value ∙ c.in_ok-append_excerpts.ensures.ok ∙ (λ i. c.new-more.ensures.items i ++ excerpts_of log (c.deref.ensures.value i))) in
    let n : Base = record { lists = c.in_ok-after.field-0; index = 0; excerpts = c.new.result; others = c.in_ok-from_slice.field-0 } in
    base_listed log b n (first ++ c.deref-2.result.now) c.in_ok-after.ensures.ok refl c.new.ensures.items is

pub returns-clause-is : goal.returns-clause-is
returns-clause-is c =
    let log = c.args.log.now in
    let b = c.args.base.now in
    let first = get_or b.lists b.index [] in
    let is : first ++ c.deref-2.result.now ≡ base_of log b =
    ap (λ A. first ++ A) (c.deref-2.ensures.value ∙ c.in_ok-append_excerpts.ensures.ok ∙ (λ i. c.new-more.ensures.items i ++ excerpts_of log (c.deref.ensures.value i))) in
    let n : Base = record { lists = c.in_ok-after.field-0; index = 0; excerpts = c.new.result; others = c.in_ok-from_slice.field-0 } in
    base_listed_is log b n (first ++ c.deref-2.result.now) c.in_ok-after.ensures.ok refl c.new.ensures.items is (c.in_ok-from_slice.ensures.items ∙ c.deref-3.ensures.value) c.requires
