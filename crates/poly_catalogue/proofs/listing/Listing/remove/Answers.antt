use Rattle.std.proofs.Common.{List, [], ap, arith, length, refl, subst, ◌+◌, ◌<◌, ◌∙◌, ◌≡◌, ℕ}
use Rattle.std.specs.List.{swap_remove}
use Rattle.poly_tiling.specs.Lists.{one, tally}
use Rattle.poly_catalogue.specs.Index.{Agree}
use Rattle.poly_catalogue.specs.Rows.{at, row, span}
use Rattle.poly_catalogue.proofs.Kept.{agree_as, index_as, lent, renamed_index, swap_tally}
use Rattle.poly_catalogue.proofs.Left.{whole_span}
use Rattle.poly_catalogue.proofs.Written.{row_read}
use Rattle.poly_catalogue.proofs.listing.Listing.remove.Goals as goal

pub remove_entries-requires-clause-agree : goal.remove_entries-requires-clause-agree
remove_entries-requires-clause-agree c =
    let x = c.self.inside in
    let ts : List (List ℕ) = x.tilings.items in
    let bs : List (List ℕ) = x.positions in
    let t = c.args.index in
    let low : t < length ts = omega (arith, ap length c.self.view_is, c.requires) in
    let n = length c.numbers-count.result.now in
    let is : c.numbers-count.result.now ≡ row ts t = c.numbers-count.ensures.value ∙ row_read ts t c.index.result.now low c.index.ensures in
    agree_as (λ (us : List (List ℕ)). span (at us) t 0 n) ts c.deref.result.now bs bs x.rows.items c.deref_mut.result.now c.deref.ensures.value refl c.deref_mut.ensures.value
    (whole_span ts (at bs) (at x.rows.items) t n (ap length is) c.self.invariant.agree)

pub invariant_of-self : goal.invariant_of-self
invariant_of-self c =
    let x = c.self.inside in
    let ts : List (List ℕ) = x.tilings.items in
    let t = c.args.index in
    let low : t < length ts = omega (arith, ap length c.self.view_is, c.requires) in
    let bs1 : List (List ℕ) = c.remove_entries.new.positions in
    let bs2 : List (List ℕ) = c.swap_remove-2.new.self in
    let rs2 = c.reindex_last.new.rows in
    let g = subst (λ (us : List (List ℕ)). Agree (at (swap_remove us t [])) (at (swap_remove bs1 t [])) (at rs2)) c.deref-2.ensures.value c.reindex_last.ensures in
    index_as (swap_remove ts t c.swap_remove.result) c.swap_remove.new.self.items bs2 bs2 rs2 _
    c.swap_remove.ensures.items refl
    (lent rs2 _ x.rows.len (omega (arith, c.reindex_last.auto.rows, c.deref_mut-2.ensures.len)))
    (renamed_index ts bs1 bs2 rs2 t c.swap_remove.result low c.self.invariant.few c.self.invariant.once (omega (arith, c.remove_entries.ensures.even, c.self.invariant.even)) c.swap_remove-2.ensures.less c.swap_remove-2.ensures.rows g)

pub returns-clause-tally : goal.returns-clause-tally
returns-clause-tally c =
    λ f.
    let ts : List (List ℕ) = c.self.inside.tilings.items in
    let t = c.args.index in
    let low : t < length ts = omega (arith, ap length c.self.view_is, c.requires) in
    subst (λ (us : List (List ℕ)). tally f c.swap_remove.new.self.items + one (f (row us t)) ≡ tally f us) c.self.view_is
    (ap (λ (l : List (List ℕ)). tally f l + one (f (row ts t))) c.swap_remove.ensures.items ∙ swap_tally f ts t c.swap_remove.result low)
