-- The stored steps give the design and the changes to undo and redo.
use Rattle.std.proofs.Common.{List, None, Option, Some, [], ap, arith, cond, eqb, length, map, refl, subst, suc, sym, true, zero, ℕ, ◌+◌, ◌∙◌, ◌∷◌, ◌≡◌, ◌≤◌}
use Rattle.std.proofs.lemmas.Bool.{cond-false, cond_both, eq-eqb, ne_eqb}
use Rattle.poly_design.proofs.Restored.{restored}
use Rattle.poly_design.specs.Changes.{HasBefore, changed, inverse_of}
use Rattle.poly_design.specs.Layout.{Layout}
use Rattle.poly_design.specs.Limits.{IsDesign}
use Rattle.poly_design.specs.declared.change.Change.{Change}
use Rattle.poly_tiling.specs.Puzzle.{View}
use Rattle.poly_report.specs.Trees.{Plan}
use Rattle.poly_book.specs.declared.step.Kind.TheVariants as kind
use Rattle.poly_book.specs.declared.step.Step.{Step}
use Rattle.poly_tasks.specs.Tasks.{Task, find_task}
use Rattle.poly_book.specs.States.{State, opening}
use Rattle.poly_tasks.specs.Stored.{Way}
use Rattle.poly_book.specs.Ways.{newest, way_back}
use Rattle.poly_tasks.specs.Shelves.{is_kept}
use Rattle.poly_book.specs.Events.{Edit, Event, Goes, Leads, LeadsBy, Redo, Report, Undo, cut, handed_in, moved, redone, step, undone}
use Rattle.poly_book.specs.Partition.{Becomes}
use Rattle.poly_book.specs.Replay.{LeadBack, Origins, Replay, Trace, design_before, origins, put_by, replayed, traced}
use Rattle.poly_book.proofs.Moves.{inverse_twice}

abbrev changes : List Way → List Change
changes ws = map (λ b. b.change) ws

abbrev numbers : List Way → List ℕ
numbers ws = map (λ b. b.made) ws

newest_map : {X : Type 0} (f : Way → X) (n : ℕ) (ws : List Way) → newest n (map f ws) ≡ map f (newest n ws)
newest_map f zero ws = refl
newest_map f (suc n) [] = refl
newest_map f (suc n) (b ∷ ws) = ap (λ xs. f b ∷ xs) (newest_map f n ws)

-- a further step doesn't alter the design before an earlier one
before_stays : (m : ℕ) (o : Layout) (x : Step) (ss : List Step) → m ≤ length ss → design_before m o (x ∷ ss) ≡ design_before m o ss
before_stays m o x ss l = cond-false (eqb (length ss + 1) m) (replayed o ss).design (design_before m o ss) (ne_eqb (length ss + 1) m (λ e. omega (arith, l, e)))

before_last : (m : ℕ) (o : Layout) (x : Step) (ss : List Step) → m ≡ length ss + 1 → design_before m o (x ∷ ss) ≡ (replayed o ss).design
before_last m o x ss e = ap (λ b. cond b (replayed o ss).design (design_before m o ss)) (eq-eqb (length ss + 1) m (sym e))

lead_on : (f : Change → Change) (o : Layout) (x : Step) (ss : List Step) (d : Layout) (ws : List Way) → LeadBack f o ss d ws → LeadBack f o (x ∷ ss) d ws
lead_on f o x ss d [] h = tt
lead_on f o x ss d (b ∷ ws) h = (omega (arith, h.0), h.1 ∙ sym (before_stays b.made o x ss h.0), lead_on f o x ss (changed d (f b.change)) ws h.2)

lead_newest : (n : ℕ) (f : Change → Change) (o : Layout) (ss : List Step) (d : Layout) (ws : List Way) → LeadBack f o ss d ws → LeadBack f o ss d (newest n ws)
lead_newest zero f o ss d ws h = tt
lead_newest (suc n) f o ss d [] h = tt
lead_newest (suc n) f o ss d (b ∷ ws) h = (h.0, h.1, lead_newest n f o ss (changed d (f b.change)) ws h.2)

-- the way back of the last step leads to the design before it
lead_push : (f : Change → Change) (o : Layout) (x : Step) (ss : List Step) (d e : Layout) (b : Way) (ws : List Way) → LeadBack f o ss d ws → b.made ≡ length ss + 1 → changed e (f b.change) ≡ d → (replayed o ss).design ≡ d → LeadBack f o (x ∷ ss) e (b ∷ ws)
lead_push f o x ss d e b ws h made back was = (omega (arith, made), back ∙ sym was ∙ sym (before_last b.made o x ss made), subst (λ z. LeadBack f o (x ∷ ss) z ws) (sym back) (lead_on f o x ss d ws h))

edited_replay : (s : State) (x : Change) (w : View) → IsDesign s.design → Leads s x w → Replay s → Replay (moved s kind.Edit x w None true (newest 256 (way_back s x w ∷ s.back)) [])
edited_replay s x w d g p =
    let design = ap (λ t. t.design) p.is in
    let b = way_back s x w in
    let done : Step = record { kind = kind.Edit; change = x; pending = length s.pending; shelved = true } in
    record {
      is = ap (λ t. traced t kind.Edit x) p.is ∙ ap (λ xs. let t : Trace = record { design = changed s.design x; back = xs; forth = [] } in t) (newest_map (λ z. z.change) 256 (b ∷ s.back));
      stand = (subst (λ d. HasBefore d x) (sym design) g.before, tt, p.stand);
      designs = (subst (λ d. IsDesign (changed d x)) (sym design) g.design, p.designs);
      origins_are = ap (λ t. put_by t kind.Edit (length s.steps + 1)) p.origins_are ∙ ap (λ xs. let t : Origins = record { back = xs; forth = [] } in t) (newest_map (λ z. z.made) 256 (b ∷ s.back));
      back_leads = lead_newest 256 inverse_of s.opened (done ∷ s.steps) (changed s.design x) (b ∷ s.back) (lead_push inverse_of s.opened done s.steps s.design (changed s.design x) b s.back p.back_leads refl (restored s.design x d g.before) design);
      forth_leads = tt;
    }

undone_replay : (s : State) (w : View) (ws : List Way) → IsDesign s.design → ws ≡ s.back → LeadsBy s inverse_of ws w → Replay s → Replay (undone s w ws)
undone_replay s w [] d e g p = p
undone_replay s w (b ∷ ws) d e g p =
    let x = inverse_of b.change in
    let is : replayed s.opened s.steps ≡ record { design = s.design; back = b.change ∷ changes ws; forth = changes s.forth } = p.is ∙ ap (λ xs. let t : Trace = record { design = s.design; back = changes xs; forth = changes s.forth } in t) (sym e) in
    let from : origins s.steps ≡ record { back = b.made ∷ numbers ws; forth = numbers s.forth } = p.origins_are ∙ ap (λ xs. let t : Origins = record { back = numbers xs; forth = numbers s.forth } in t) (sym e) in
    let leads = subst (λ bs. LeadBack inverse_of s.opened s.steps s.design bs) (sym e) p.back_leads in
    let design = ap (λ t. t.design) is in
    let back = ap (λ t. t.back) is in
    let y = way_back s b.change w in
    let again : changed (changed s.design x) b.change ≡ s.design = ap (λ z. changed (changed s.design x) z) (sym (inverse_twice b.change)) ∙ restored s.design x d g.before in
    let done : Step = record { kind = kind.Undo; change = x; pending = length s.pending; shelved = is_kept b.shelf } in
    record {
      is = ap (λ t. traced t kind.Undo x) is ∙ ap (λ y. let t : Trace = record { design = changed s.design x; back = changes ws; forth = y ∷ changes s.forth } in t) (inverse_twice b.change);
      stand = (subst (λ d. HasBefore d x) (sym design) g.before, (changes ws, back ∙ ap (λ y. y ∷ changes ws) (sym (inverse_twice b.change))), p.stand);
      designs = (subst (λ d. IsDesign (changed d x)) (sym design) g.design, p.designs);
      origins_are = ap (λ t. put_by t kind.Undo (length s.steps + 1)) from;
      back_leads = lead_on inverse_of s.opened done s.steps (changed s.design x) ws leads.2;
      forth_leads = lead_push (λ z. z) s.opened done s.steps s.design (changed s.design x) y s.forth p.forth_leads refl again design;
    }

redone_replay : (s : State) (w : View) (ws : List Way) → IsDesign s.design → ws ≡ s.forth → LeadsBy s (λ x. x) ws w → Replay s → Replay (redone s w ws)
redone_replay s w [] d e g p = p
redone_replay s w (b ∷ ws) d e g p =
    let x = b.change in
    let is : replayed s.opened s.steps ≡ record { design = s.design; back = changes s.back; forth = x ∷ changes ws } = p.is ∙ ap (λ xs. let t : Trace = record { design = s.design; back = changes s.back; forth = changes xs } in t) (sym e) in
    let from : origins s.steps ≡ record { back = numbers s.back; forth = b.made ∷ numbers ws } = p.origins_are ∙ ap (λ xs. let t : Origins = record { back = numbers s.back; forth = numbers xs } in t) (sym e) in
    let leads = subst (λ bs. LeadBack (λ z. z) s.opened s.steps s.design bs) (sym e) p.forth_leads in
    let design = ap (λ t. t.design) is in
    let forth = ap (λ t. t.forth) is in
    let y = way_back s x w in
    let done : Step = record { kind = kind.Redo; change = x; pending = length s.pending; shelved = is_kept b.shelf } in
    record {
      is = ap (λ t. traced t kind.Redo x) is ∙ ap (λ xs. let t : Trace = record { design = changed s.design x; back = xs; forth = changes ws } in t) (newest_map (λ z. z.change) 256 (y ∷ s.back));
      stand = (subst (λ d. HasBefore d x) (sym design) g.before, (changes ws, forth), p.stand);
      designs = (subst (λ d. IsDesign (changed d x)) (sym design) g.design, p.designs);
      origins_are = ap (λ t. put_by t kind.Redo (length s.steps + 1)) from ∙ ap (λ xs. let t : Origins = record { back = xs; forth = numbers ws } in t) (newest_map (λ z. z.made) 256 (y ∷ s.back));
      back_leads = lead_newest 256 inverse_of s.opened (done ∷ s.steps) (changed s.design x) (y ∷ s.back) (lead_push inverse_of s.opened done s.steps s.design (changed s.design x) y s.back p.back_leads refl (restored s.design x d g.before) design);
      forth_leads = lead_on (λ z. z) s.opened done s.steps (changed s.design x) ws leads.2;
    }

handed_replay : (s : State) (k : ℕ) (tree : Plan) (o : Option Task) → Replay s → Replay (handed_in s k o tree)
handed_replay s k tree None p = p
handed_replay s k tree (Some t) p = cond_both _ (cut s k t tree) s Replay (λ h. record { is = p.is; stand = p.stand; designs = p.designs; origins_are = p.origins_are; back_leads = p.back_leads; forth_leads = p.forth_leads }) (λ h. p)

pub step_replay : (s : State) (e : Event) → IsDesign s.design → Goes s e → Replay s → Replay (step s e)
step_replay s (Edit x w) d g p = edited_replay s x w d g p
step_replay s (Undo w) d g p = undone_replay s w s.back d refl g p
step_replay s (Redo w) d g p = redone_replay s w s.forth d refl g p
step_replay s (Report k tree) d g p = handed_replay s k tree (find_task k s.pending) p

pub opening_replay : (d : Layout) (v : View) → Replay (opening d v)
opening_replay d v = record { is = refl; stand = tt; designs = tt; origins_are = refl; back_leads = tt; forth_leads = tt }

relisted_replay : (s : State) (L : List (List ℕ)) → Replay s → Replay (record s { listed = L })
relisted_replay s L p = record { is = p.is; stand = p.stand; designs = p.designs; origins_are = p.origins_are; back_leads = p.back_leads; forth_leads = p.forth_leads }

pub becomes_replay : (s z : State) → Becomes s z → Replay s → Replay z
becomes_replay s z k p = subst Replay (sym k.same) (relisted_replay s z.listed p)
