-- Items that a view doesn't have.
use Rattle.std.proofs.Common.{List, arith, false, length, not, subst, sym, take, true, ℕ, ◌&&◌, ◌<◌, ◌∙◌, ◌≡◌}
use Rattle.std.specs.List.{list_any}
use Rattle.std.proofs.lemmas.Bool.{and_parts, both_ways, false_from_ne_true}
use Rattle.poly_tiling.specs.declared.item.Item.{Item}
use Rattle.poly_tiling.specs.Lists.{tally}
use Rattle.poly_tiling.specs.Names.{WellNamed}
use Rattle.poly_tiling.specs.Puzzle.{View, count, has_item, same_item}
use Rattle.poly_tiling.proofs.Lists.{all_in, any_in, tally_none}
use Rattle.poly_tiling.proofs.Named.{listed_item}
use Rattle.poly_tiling.proofs.Tilings.{same_item_self}
use Rattle.poly_atom.specs.declared.atom.Atom.{Atom}
use Rattle.poly_atom.specs.Hopeless.{base}
use Rattle.poly_frame.specs.FrameItems.{item_of}
use Rattle.poly_frame.specs.FrameSteps.{Kept}
use Rattle.poly_frame.specs.Open.{least_at, least_with_base, ruled_out}
use Rattle.poly_frame.specs.Plain.{least_for, of_asked}
use Rattle.poly_frame.specs.declared.frame.matrix.Matrix.{Matrix}
use Rattle.poly_frame.specs.declared.frame.steps.Mark.{Mark}
use Rattle.poly_frame.specs.declared.frame.table.Table.{Table}
use Rattle.poly_frame.proofs.Due.{least_none, leasts_one}
use Rattle.poly_frame.proofs.FramePicks.{column_of}
use Rattle.poly_frame.proofs.FrameSteps.{top_level}

-- none of the view's bounds is for an item that is at no index
pub unlisted : (v : View) (i : Item) → ((b : ℕ) → b < length v.bounds → same_item (item_of v b) i ≡ false) → list_any (λ b. same_item b.item i) v.bounds ≡ false
unlisted v i none = false_from_ne_true (list_any (λ b. same_item b.item i) v.bounds) (λ e.
    let s = column_of v.bounds i e in
    both_ways (same_item (item_of v s.0) i) (none s.0 s.1) (subst (λ j. same_item j i ≡ true) (sym s.2) (same_item_self i)))

-- no placement of the design has the item
pub none_elsewhere : (v : View) (A : List Atom) (i : Item) → WellNamed v → ((b : ℕ) → b < length v.bounds → same_item (item_of v b) i ≡ false) → tally (λ p. has_item v p i && not (ruled_out v A p)) v.live ≡ 0
none_elsewhere v A i well none = tally_none (λ p. has_item v p i && not (ruled_out v A p)) v.live (λ p k. false_from_ne_true (has_item v p i && not (ruled_out v A p)) (λ e.
    both_ways (list_any (λ b. same_item b.item i) v.bounds) (unlisted v i none) (listed_item v well p k i (and_parts (has_item v p i) (not (ruled_out v A p)) e).0)))

-- if no atom asks for such an item, as many members have to have it as the base has
pub least_elsewhere : (v : View) (A : List Atom) (first : ℕ) (matrix : Matrix) (t : Table) (live have raised : List ℕ) (marks : List Mark) → Kept v A first matrix t live have raised marks → (i : Item) →
    ((b : ℕ) → b < length v.bounds → same_item (item_of v b) i ≡ false) → t.listed ≡ true → count v (base v A) i ≡ least_with_base v A i
least_elsewhere v A first matrix t live have raised marks K i none listed =
    let there = λ (k : Item). list_any (λ b. same_item b.item k) v.bounds in
    let out = unlisted v i none in
    let free = false_from_ne_true (list_any (least_for i) (take first A)) (λ y.
    let x = any_in (least_for i) (take first A) y in
    both_ways (there i) out (leasts_one there i x.0 x.2 (all_in (of_asked there) (take first A) (K.table.listed listed) x.0 x.1))) in
    let zero_least : least_at v A i ≡ 0 = (top_level v A first matrix t live have raised marks K).leasts i ∙ least_none v (take first A) i out free in
    omega (arith, zero_least)
