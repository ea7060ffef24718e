-- A matrix of some atoms serves all atoms that go on from these.
use Rattle.std.proofs.Common.{List, ◌≡◌, ℕ, subst, sym, take}
use Rattle.poly_atom.specs.declared.atom.Atom.{Atom}
use Rattle.poly_book.specs.Scenes.{IsNarrowed}
use Rattle.poly_book.specs.declared.narrowed.Narrowed.{Narrowed}
use Rattle.poly_frame.specs.FrameTable.{HasOpen}
use Rattle.poly_frame.proofs.Opens.{has_open_after}
use Rattle.poly_tiling.specs.Puzzle.{View}

pub begins_right : (v : View) (n : Narrowed) (A : List Atom) (k : ℕ) → take k A ≡ n.atoms.items → IsNarrowed v n → HasOpen v A n.matrix
begins_right v n A k e p = has_open_after v A k n.matrix p.0 (subst (λ (B : List Atom). HasOpen v B n.matrix) (sym e) p.1)
