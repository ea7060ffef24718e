use Rattle.std.proofs.Common.{List, [], ap, length, subst, sym, ◌<◌, ◌≤◌, ◌∙◌, ◌≡◌, ℕ}
use Rattle.std.proofs.lemmas.Bool.{ltb-false, ltb-true}
use Rattle.std.proofs.lemmas.List.{get_or_past}
use Rattle.poly_catalogue.specs.Listed.{AreIndicesWith}
use Rattle.poly_catalogue.specs.Rows.{row}
use Rattle.poly_catalogue.proofs.Left.{indices_with}
use Rattle.poly_catalogue.proofs.Written.{row_read}
use Rattle.poly_catalogue.proofs.listing.Listing.indices.Goals as goal

pub returns-in-Some : goal.returns-in-Some
returns-in-Some c =
    let x = c.self.inside in
    let p = c.args.number in
    let rs : List (List ℕ) = x.rows.items in
    let low : p < length c.deref.result.now = ltb-true p (length c.deref.result.now) (sym c.in-Some.ensures.lookup.0) in
    let is : c.numbers.result.now ≡ row rs p = c.numbers.ensures ∙ row_read c.deref.result.now p c.in-Some.row.now low c.in-Some.ensures.lookup.1 ∙ ap (λ (l : List (List ℕ)). row l p) c.deref.ensures.value in
    subst (λ (ps : List ℕ). AreIndicesWith c.args.self.now p ps) (sym is) (subst (λ (ts : List (List ℕ)). AreIndicesWith ts p (row rs p)) c.self.view_is (indices_with x.tilings.items x.positions rs p c.self.invariant))

pub returns-in-None : goal.returns-in-None
returns-in-None c =
    let x = c.self.inside in
    let p = c.args.number in
    let rs : List (List ℕ) = x.rows.items in
    let high : length c.deref.result.now ≤ p = ltb-false p (length c.deref.result.now) (sym c.in-None.ensures.lookup.0) in
    let is : row rs p ≡ [] = sym (ap (λ (l : List (List ℕ)). row l p) c.deref.ensures.value) ∙ get_or_past c.deref.result.now p [] high in
    subst (λ (ps : List ℕ). AreIndicesWith c.args.self.now p ps) is (subst (λ (ts : List (List ℕ)). AreIndicesWith ts p (row rs p)) c.self.view_is (indices_with x.tilings.items x.positions rs p c.self.invariant))
