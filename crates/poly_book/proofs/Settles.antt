-- How many tasks settling cuts, and what it leaves as it was.
use Rattle.std.proofs.Common.{Bool, List, [], ap, append_assoc, arith, false, inl, inr, map, refl, subst, suc, sym, true, ℕ, ◌++◌, ◌+◌, ◌<◌, ◌∙◌, ◌∷◌, ◌≡◌}
use Rattle.std.proofs.lemmas.Bool.{and_from, true≢false}
use Rattle.std.proofs.lemmas.List.{append-nil, length-append}
use Rattle.poly_grid.specs.declared.refusal.Refusal.{Refusal}
use Rattle.poly_grid.specs.declared.refusal.Refusal.TheVariants.{Unfinished}
use Rattle.poly_atom.specs.declared.atom.Atom.{Atom}
use Rattle.poly_report.specs.Trees.{Plan}
use Rattle.poly_book.specs.declared.parts.Parts.{Parts}
use Rattle.poly_book.specs.declared.step.Applied.{Applied}
use Rattle.poly_book.specs.declared.step.Ending.TheVariants.{Cut}
use Rattle.poly_book.specs.Keeps.{state_of}
use Rattle.poly_book.specs.Reports.{AreFoundLeaves, IsApplied}
use Rattle.poly_book.specs.Settled.{AreReported, AreReportedBefore, Cuts, IsNotTurned, IsReported, IsSettled}
use Rattle.poly_book.specs.States.{State}
use Rattle.poly_book.proofs.Taking.{step_cut}

pub applied_cuts : (k made : ℕ) (tree : Plan) (s t : State) (a : Applied) → IsApplied k made tree s t a → Cuts s t 1
applied_cuts k made tree s t a p =
    let is = step_cut s k p.task tree p.found p.right in
    let same = p.becomes.same in
    record {
      opened = ap (λ z. z.opened) same ∙ ap (λ z. z.opened) is;
      design = ap (λ z. z.design) same ∙ ap (λ z. z.design) is;
      view = ap (λ z. z.view) same ∙ ap (λ z. z.view) is;
      steps = ap (λ z. z.steps) same ∙ ap (λ z. z.steps) is;
      tasks = k ∷ [];
      endings = ap (λ z. z.endings) same ∙ ap (λ z. z.endings) is;
      count = refl;
    }

map_append : (js ks : List ℕ) → map (λ k. Cut k) (js ++ ks) ≡ map (λ k. Cut k) js ++ map (λ k. Cut k) ks
map_append [] ks = refl
map_append (j ∷ js) ks = ap (λ es. Cut j ∷ es) (map_append js ks)

pub cuts_on : (s t u : State) (n : ℕ) → Cuts s t n → Cuts t u 1 → Cuts s u (n + 1)
cuts_on s t u n a b = record {
  opened = b.opened ∙ a.opened;
  design = b.design ∙ a.design;
  view = b.view ∙ a.view;
  steps = b.steps ∙ a.steps;
  tasks = a.tasks ++ b.tasks;
  endings = b.endings ∙ ap (λ es. es ++ map (λ k. Cut k) b.tasks) a.endings ∙ append_assoc s.endings (map (λ k. Cut k) a.tasks) (map (λ k. Cut k) b.tasks) ∙ ap (λ es. s.endings ++ es) (sym (map_append a.tasks b.tasks));
  count = omega (arith, length-append a.tasks b.tasks, a.count, b.count);
}

pub cuts_none : (s : State) → Cuts s s 0
cuts_none s = record { opened = refl; design = refl; view = refl; steps = refl; tasks = []; endings = sym (append-nil s.endings); count = refl }

pub cuts_end : (s t u : State) (n : ℕ) → Cuts s t n → (u ≡ t) × (t.pending ≡ []) → IsSettled s u n
cuts_end s t u n a e = record {
  cuts = subst (λ z. Cuts s z n) (sym e.0) a;
  none = subst (λ z. z.pending ≡ []) (sym e.0) e.1;
}

-- a tree whose leaves were found, and whose report was applied
pub found_reported : (nodes made index : ℕ) (p : Parts) (k : ℕ) (tree : Plan) (found : List (List ℕ)) (left : List (List Atom)) (t : State) (a : Applied) → AreFoundLeaves nodes p k index tree found left → IsApplied k made tree (state_of p) t a → IsReported nodes (state_of p) t
found_reported nodes made index p k tree found left t a l b = record {
  number = k;
  task = l.leaves.task;
  tree = tree;
  pending = l.leaves.there;
  right = and_from _ _ l.leaves.small l.leaves.cut.right;
  few = l.few;
  root = l.root;
  smaller = l.smaller;
  becomes = b.becomes;
}

pub reported_on : (nodes n : ℕ) (s t u : State) → AreReported nodes n s t → IsReported nodes t u → AreReported nodes (n + 1) s u
reported_on nodes n s t u a b = let e : n + 1 ≡ suc n = omega arith in subst (λ m. AreReported nodes m s u) (sym e) (t, a, b)

pub reported_end : (nodes n : ℕ) (s t u : State) → AreReported nodes n s t → u ≡ t → AreReported nodes n s u
reported_end nodes n s t u a e = subst (λ z. AreReported nodes n s z) (sym e) a

is_unfinished : Refusal → Bool
is_unfinished Unfinished = true
is_unfinished e = false

not_unfinished : (s : State) (e : Refusal) → IsNotTurned s e → is_unfinished e ≡ false
unfolding is_unfinished
not_unfinished s e (inl m) = ap is_unfinished m
not_unfinished s e (inr t) = elim t.4 [
  | inl o ↦ ap is_unfinished o.0
  | inr (inl o) ↦ ap is_unfinished o.0
  | inr (inr o) ↦ ap is_unfinished o
]

-- a refused turn comes after fewer reports than were allowed
pub reported_before : (e : Refusal) (turns nodes n : ℕ) (s t : State) → n < turns → IsNotTurned t e → AreReported nodes n s t → AreReportedBefore e turns nodes s t
unfolding is_unfinished
reported_before e turns nodes n s t l h r = (n, omega (arith, l), (λ u. absurd (true≢false (sym (ap is_unfinished u) ∙ not_unfinished t e h))), r)
