use Rattle.std.proofs.Common.{List, IfSome, subst, sym}
use Rattle.std.proofs.lemmas.List.Elements.{All-push, All-same}
use Rattle.poly_atom.specs.declared.atom.Atom.{Atom}
use Rattle.poly_frame.specs.FrameTable.{HasOpen}
use Rattle.poly_frame.specs.Matrices.{IsMatrix}
use Rattle.poly_book.specs.Scenes.{IsNarrowed}
use Rattle.poly_book.proofs.narrowed.keep.Goals as goal

pub returns-clause-kept : goal.returns-clause-kept
returns-clause-kept c = λ v all own.
    let m = c.in-Some.matrix in
    let two = subst (λ o. IfSome o (λ m. IsMatrix v m × HasOpen v c.args.atoms.now m)) c.in-Some.is own in
    let all_open = subst (λ (A : List Atom). HasOpen v A m) (sym c.in-Ok.ensures.items) two.1 in
    All-same (IsNarrowed v) _ _ c.in_ok-push.ensures.items (All-push (IsNarrowed v) _ _ all (two.0, all_open))
