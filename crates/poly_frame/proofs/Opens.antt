-- As the trail grows, no placement of the design becomes open.
use Rattle.std.proofs.Common.{◌≡◌, ℕ, true, not, List, ◌++◌, drop, inl, refl, subst, take, arith}
use Rattle.std.proofs.lemmas.Bool.{and_parts, and_from, both_ways, not-true, not_from_false, false_from_ne_true}
use Rattle.std.proofs.lemmas.List.{take-append-drop}
use Rattle.poly_atom.specs.declared.atom.Atom.{Atom}
use Rattle.poly_tiling.specs.Lists.{mem}
use Rattle.poly_tiling.specs.Lists.{distinct}
use Rattle.poly_tiling.specs.Puzzle.{View}
use Rattle.poly_atom.specs.Hopeless.{base}
use Rattle.poly_frame.specs.FrameTable.{HasOpen}
use Rattle.poly_frame.specs.Matrices.{IsMatrix}
use Rattle.poly_frame.specs.Open.{ruled_out, open_in}
use Rattle.poly_frame.specs.declared.frame.matrix.Matrix.{Matrix}
use Rattle.poly_tiling.proofs.Orders.{live_once}
use Rattle.poly_tiling.proofs.Lists.{In, mem_in, in_mem, in_append_left}
use Rattle.poly_frame.proofs.Later.{Later, later_base, later_ruled}

-- `Later` holds if the design stays and atoms are added
pub same_later : (v : View) (A B : List Atom) → distinct v.live ≡ true → Later v A v (A ++ B)
same_later v A B d = record {
  atoms = λ a i. in_append_left a A B i;
  placed = λ p i. inl i;
  enough = λ i. inl (omega arith);
  few = λ p i k h. inl (omega arith);
  pinned = λ p i. inl i;
  carried = λ p i h. h;
  same_items = λ p i. refl;
  conflicting = λ p q h. h;
  once = d;
}

-- a placement of the design that is open with more atoms is open without them too
pub open_before : (v : View) (A B : List Atom) (p : ℕ) → distinct v.live ≡ true → In p v.live → open_in v (A ++ B) p ≡ true → open_in v A p ≡ true
open_before v A B p d i h =
    let l = same_later v A B d in
    let hs = and_parts (not (mem (base v (A ++ B)) p)) (not (ruled_out v (A ++ B) p)) h in
    and_from _ _
    (not_from_false _ (false_from_ne_true (mem (base v A) p) (λ m. both_ways (mem (base v (A ++ B)) p) (not-true _ hs.0) (in_mem _ p (later_base v v A (A ++ B) l p (mem_in _ p m))))))
    (not_from_false _ (false_from_ne_true (ruled_out v A p) (λ r. both_ways (ruled_out v (A ++ B) p) (not-true _ hs.1) (later_ruled v v A (A ++ B) l p i r))))

-- a matrix with a column for each placement that is open at some atoms also has one for each that is open with more atoms
pub has_open_more : (v : View) (A B : List Atom) (m : Matrix) → IsMatrix v m → HasOpen v A m → HasOpen v (A ++ B) m
has_open_more v A B m k h q i o = h q i (open_before v A B q (live_once v k.well) (mem_in v.live q i) o)

-- as for the first n of the atoms
pub has_open_after : (v : View) (A : List Atom) (n : ℕ) (m : Matrix) → IsMatrix v m → HasOpen v (take n A) m → HasOpen v A m
has_open_after v A n m k h = subst (λ (B : List Atom). HasOpen v B m) (take-append-drop n A) (has_open_more v (take n A) (drop n A) m k h)
