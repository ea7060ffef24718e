use Rattle.std.proofs.Common.{◌∙◌, ap}
use Rattle.std.specs.BTreeMap.{insert_entry}
use Rattle.std.specs.Map.{keys_of}
use Rattle.std.specs.Cmp.Lexicographic.{nat_list_cmp_total}
use Rattle.poly_design.specs.Name.{name_cmp}
use Rattle.poly_design.specs.declared.spec.Spec.{Spec}
use Rattle.poly_design.proofs.Sets.{ascending_from_sorted}
use Rattle.poly_design.proofs.Entries.{copied_more}
use Rattle.poly_design.proofs.parts.copy_pieces.Goals as goal

pub loop-name-preserved-in_ok-insert : goal.loop-name-preserved-in_ok-insert
loop-name-preserved-in_ok-insert c = copied_more nat_list_cmp_total c.args.pieces.now.entries c.loop-name.copy.entries _ _ _ c.in-Some.name.now c.in-Some.spec.now
    (ascending_from_sorted name_cmp (keys_of c.args.pieces.now.entries) c.into_iter-name-iterator.ensures.into_iter_gives.5)
    c.loop-name.invariant c.in-Some.ensures.steps
    (c.in_ok-insert.ensures.entries ∙ ap (λ (s : Spec). insert_entry name_cmp c.loop-name.copy.entries c.in-Some.name.now s) c.in_ok-spec.ensures.ok)

pub loop-name-preserved : goal.loop-name-preserved
loop-name-preserved c = copied_more nat_list_cmp_total c.args.pieces.now.entries c.loop-name.copy.entries _ _ _ c.in-Some.name.now c.in-Some.spec.now
    (ascending_from_sorted name_cmp (keys_of c.args.pieces.now.entries) c.into_iter-name-iterator.ensures.into_iter_gives.5)
    c.loop-name.invariant c.in-Some.ensures.steps
    (c.in_ok-insert.ensures.entries ∙ ap (λ (s : Spec). insert_entry name_cmp c.loop-name.copy.entries c.in-Some.name.now s) c.in_ok-spec.ensures.ok)
