-- What the code does to the fields for a report is what the report's event does to the state that they show.
use Rattle.std.proofs.Common.{Bool, List, Some, [], ap, arith, cond, drop, false, get_or, length, subst, suc, sym, take, true, ℕ, ◌&&◌, ◌++◌, ◌+◌, ◌∙◌, ◌∷◌, ◌<◌, ◌≡◌, ◌≤◌}
use Rattle.std.proofs.lemmas.Bool.{and_from}
use Rattle.std.proofs.lemmas.List.{length-append, length_push}
use Rattle.std.specs.List.{position_from}
use Rattle.std.specs.Prelude.{◌==◌}
use Rattle.poly_design.specs.Layout.{Layout}
use Rattle.poly_design.specs.declared.change.Change.{Change}
use Rattle.poly_tiling.specs.Lists.{tally}
use Rattle.poly_tiling.specs.Puzzle.{View}
use Rattle.poly_atom.specs.declared.atom.Atom.{Atom}
use Rattle.poly_report.specs.Trees.{Plan}
use Rattle.poly_report.specs.Sizes.{all_fewer, fits, inner, is_rest}
use Rattle.poly_report.specs.Holds.{holds}
use Rattle.poly_report.specs.Leaves.{rests, tilings}
use Rattle.poly_undo.specs.Steps.{Steps}
use Rattle.poly_book.specs.declared.parts.Parts.{Parts}
use Rattle.poly_tasks.specs.declared.register.Register.{Register}
use Rattle.poly_tasks.specs.declared.shelf.Kept.{Kept}
use Rattle.poly_book.specs.declared.step.Ending.{Ending}
use Rattle.poly_book.specs.declared.step.Ending.TheVariants.{Cut}
use Rattle.poly_book.specs.declared.step.Step.{Step}
use Rattle.poly_tasks.specs.declared.task.Pending.{Pending}
use Rattle.poly_book.specs.Events.{Report, cut, handed_in, step}
use Rattle.poly_book.specs.Keeps.{Keeps, KeepsOf}
use Rattle.poly_tasks.specs.Mapped.{AreNotedBelow}
use Rattle.poly_book.specs.Shown.{shown}
use Rattle.poly_tasks.specs.Meaning.{AreTasks, task_of, tasks_of}
use Rattle.poly_tasks.specs.Opens.{Opens}
use Rattle.poly_book.specs.Partition.{Becomes}
use Rattle.poly_book.specs.Reports.{AreFoundLeaves, AreLeaves}
use Rattle.poly_book.specs.States.{State}
use Rattle.poly_tasks.specs.Tasks.{Task, atoms_of, drop_task, find_task, hopeful, tasks_from}
use Rattle.poly_book.proofs.Alive.{becomes_lives}
use Rattle.poly_tasks.proofs.Held.{are_append, opened_length, tasks_append}
use Rattle.poly_tasks.proofs.Noted.{below_append, below_fresh, below_left}
use Rattle.poly_tasks.proofs.Numbered.{found_in}
use Rattle.poly_tasks.proofs.Indices.{At, at_left, at_drop, at_find, at_tasks, find_where, first_at, found_where}
use Rattle.poly_book.proofs.Proved.{steps_keep_whole_lem}

-- a report whose task is pending and whose tree fits and holds cuts the task
pub step_cut : (s : State) (k : ℕ) (u : Task) (tree : Plan) → find_task k s.pending ≡ Some u → (fits tree && holds s.view (atoms_of u) tree) ≡ true → step s (Report k tree) ≡ cut s k u tree
step_cut s k u tree found right = ap (λ o. handed_in s k o tree) found ∙ ap (λ b. cond b (cut s k u tree) s) right

pub cut_next : (s : State) (k : ℕ) (u : Task) (tree : Plan) (left : List (List Atom)) → find_task k s.pending ≡ Some u → (fits tree && holds s.view (atoms_of u) tree) ≡ true → left ≡ rests s.view (atoms_of u) tree →
    4294967296 < s.next + length (hopeful s.view left) → 4294967296 < (step s (Report k tree)).next
cut_next s k u tree left found right is h = subst (λ z. 4294967296 < z.next) (sym (step_cut s k u tree found right)) (subst (λ L. 4294967296 < s.next + length (hopeful s.view L)) is h)

pub cut_listed : (s : State) (k : ℕ) (u : Task) (tree : Plan) (found : List (List ℕ)) → find_task k s.pending ≡ Some u → (fits tree && holds s.view (atoms_of u) tree) ≡ true → found ≡ tilings s.view (atoms_of u) tree →
    1000000 < length s.listed + length found → 1000000 < length (step s (Report k tree)).listed
cut_listed s k u tree found there right is h =
    let l : 1000000 < length (s.listed ++ tilings s.view (atoms_of u) tree) = omega (arith, h, ap length is, length-append s.listed (tilings s.view (atoms_of u) tree)) in
    subst (λ z. 1000000 < length z.listed) (sym (step_cut s k u tree there right)) l

pub cut_within : (s : State) (k : ℕ) (u : Task) (tree : Plan) (left : List (List Atom)) → find_task k s.pending ≡ Some u → (fits tree && holds s.view (atoms_of u) tree) ≡ true → left ≡ rests s.view (atoms_of u) tree →
    s.next + length (hopeful s.view left) ≤ 4294967296 → (step s (Report k tree)).next ≤ 4294967296
cut_within s k u tree left found right is h = subst (λ z. z.next ≤ 4294967296) (sym (step_cut s k u tree found right)) (subst (λ L. s.next + length (hopeful s.view L) ≤ 4294967296) is h)

some_same : {X : Type 0} (x y : X) → Some x ≡ Some y → x ≡ y
some_same x y e = cc

-- what the code did to the fields
pub record Took (v : View) (ls ls2 : List (List ℕ)) (log : List (List Atom)) (ps ps2 fresh : List Pending) (n n2 : ℕ) (es es2 : List Ending) (k index : ℕ) (x : Pending) (tree : Plan) : Type 0 where
  pub there : At k ps index
  pub is : x ≡ get_or ps index x
  pub right : (fits tree && holds v (atoms_of (task_of log x)) tree) ≡ true
  pub listed_is : (f : List ℕ → Bool) → tally f ls2 ≡ tally f (ls ++ tilings v (atoms_of (task_of log x)) tree)
  pub tasks_are : ps2 ≡ (take index ps ++ drop (suc index) ps) ++ fresh
  pub fresh_are : Opens log n v (rests v (atoms_of (task_of log x)) tree) fresh
  pub next_is : n2 ≡ n + length fresh
  pub few_tasks : n2 ≤ 4294967296
  pub ended_are : es2 ≡ es ++ Cut k ∷ []

module _ {m : Register} {o d : Layout} {v t : View} {ls ls2 : List (List ℕ)} {log : List (List Atom)} {ps ps2 fresh : List Pending} {n n2 : ℕ} {h : Steps Change Kept} {ss : List Step} {es es2 : List Ending} {k index : ℕ} {x : Pending} {tree : Plan} (keeps : KeepsOf m o d v t ls log ps n h ss es) (c : Took v ls ls2 log ps ps2 fresh n n2 es es2 k index x tree) where
  pub took_found : find_task k (tasks_of log ps) ≡ Some (task_of log x)
  took_found = at_find k log ps index x c.there ∙ ap (λ y. Some (task_of log y)) (sym c.is)

  pub took_becomes : Becomes (step (shown o d v ls log ps n h ss es) (Report k tree)) (shown o d v ls2 log ps2 n2 h ss es2)
  took_becomes =
      let s = shown o d v ls log ps n h ss es in
      let u = task_of log x in
      let left = take index ps ++ drop (suc index) ps in
      let opened = hopeful v (rests v (atoms_of u) tree) in
      let p1 = ap (λ y. tasks_of log y) c.tasks_are ∙ tasks_append log left fresh in
      let p2 = at_drop k log ps index c.there in
      let p3 = c.fresh_are.tasks in
      let pending : tasks_of log ps2 ≡ drop_task k (tasks_of log ps) ++ tasks_from n opened = p1 ∙ (λ i. sym p2 i ++ p3 i) in
      let next : n2 ≡ n + length opened = omega (arith, c.next_is, opened_length log n v (rests v (atoms_of u) tree) fresh c.fresh_are) in
      let is : handed_in s k (find_task k s.pending) tree ≡ cut s k u tree = ap (λ z. handed_in s k z tree) took_found ∙ ap (λ b. cond b (cut s k u tree) s) c.right in
      let b : Becomes (cut s k u tree) (shown o d v ls2 log ps2 n2 h ss es2) = record {
        same = λ i. let z : State = record (shown o d v ls2 log ps2 n2 h ss es2) { pending = pending i; next = next i; endings = c.ended_are i } in z;
        order = c.listed_is;
      } in
      subst (λ z. Becomes z (shown o d v ls2 log ps2 n2 h ss es2)) (sym is) b

  pub took_keeps : KeepsOf m o d v t ls2 log ps2 n2 h ss es2
  took_keeps =
      let left = take index ps ++ drop (suc index) ps in
      let lives = becomes_lives (shown o d v ls log ps n h ss es) (shown o d v ls2 log ps2 n2 h ss es2) (Report k tree) took_becomes (keeps.alive, keeps.sparing) in
      record {
        whole = steps_keep_whole_lem (shown o d v ls log ps n h ss es) (shown o d v ls2 log ps2 n2 h ss es2) (Report k tree) keeps.whole tt took_becomes;
        right = keeps.right;
        grown = keeps.grown;
        tasks = subst (λ y. AreTasks log y) (sym c.tasks_are) (are_append log left fresh (at_tasks log k ps index c.there keeps.tasks) c.fresh_are.are);
        alive = lives.0;
        sparing = lives.1;
        mapped = subst (λ y. AreNotedBelow m.below m.maps log y) (sym c.tasks_are) (below_append m.below m.maps log left fresh (below_left m.below m.maps log index ps keeps.mapped)
            (below_fresh m.below n m.maps log fresh (hopeful v (rests v (atoms_of (task_of log x)) tree)) keeps.below c.fresh_are.tasks));
        below = (let low = keeps.below in omega (arith, low, c.next_is));
        log_length = keeps.log_length;
        few_steps = keeps.few_steps;
        few_tasks = c.few_tasks;
        held = keeps.held;
        few_ways = keeps.few_ways;
        numbered = omega (
          arith,
          keeps.numbered,
          c.next_is,
          ap length c.ended_are,
          length_push es (Cut k),
          ap length c.tasks_are,
          length-append left fresh,
          at_left k ps index c.there,
        );
      }

-- what applying the leaves of a tree does to the fields
pub took_from : (a : Parts) (k index : ℕ) (tree : Plan) (ts : List (List ℕ)) (rs : List (List Atom)) (x : Pending) (ls2 : List (List ℕ)) (ps2 fresh : List Pending) (more : ℕ) (es2 : List Ending) →
    AreLeaves a k index tree ts rs → x ≡ get_or a.tasks.items index x → ls2 ≡ a.listed ++ ts → ps2 ≡ (take index a.tasks.items ++ drop (index + 1) a.tasks.items) ++ fresh → Opens a.log a.next a.scene rs fresh →
    more ≡ length fresh → a.next + length fresh ≤ 4294967296 → es2 ≡ a.endings.items ++ Cut x.number ∷ [] →
    Took a.scene a.listed ls2 a.log a.tasks.items ps2 fresh a.next (a.next + more) a.endings.items es2 k index x tree
took_from a k index tree ts rs x ls2 ps2 fresh more es2 l is listed tasks opens count few ended =
    let there = first_at k a.tasks.items index l.first in
    let found : find_task k (tasks_of a.log a.tasks.items) ≡ Some (task_of a.log x) = at_find k a.log a.tasks.items index x there ∙ ap (λ y. Some (task_of a.log y)) (sym is) in
    let number : x.number ≡ k = (found_in k (tasks_of a.log a.tasks.items) (task_of a.log x) found).1 in
    let same : l.task ≡ task_of a.log x = some_same l.task (task_of a.log x) (sym l.there ∙ found) in
    let next : index + 1 ≡ suc index = omega arith in
    let tilings_are : ts ≡ tilings a.scene (atoms_of (task_of a.log x)) tree = l.cut.tilings ∙ ap (λ u. tilings a.scene (atoms_of u) tree) same in
    let rests_are : rs ≡ rests a.scene (atoms_of (task_of a.log x)) tree = l.cut.rests ∙ ap (λ u. rests a.scene (atoms_of u) tree) same in
    record {
      there = there;
      is = is;
      right = and_from (fits tree) (holds a.scene (atoms_of (task_of a.log x)) tree) l.small (ap (λ u. holds a.scene (atoms_of u) tree) (sym same) ∙ l.cut.right);
      listed_is = λ f. ap (λ L. tally f L) (listed ∙ ap (λ L. a.listed ++ L) tilings_are);
      tasks_are = tasks ∙ ap (λ m. (take index a.tasks.items ++ drop m a.tasks.items) ++ fresh) next;
      fresh_are = subst (λ R. Opens a.log a.next a.scene R fresh) rests_are opens;
      next_is = ap (λ m. a.next + m) count;
      few_tasks = omega (arith, few, count);
      ended_are = ended ∙ ap (λ m. a.endings.items ++ Cut m ∷ []) number;
    }

-- the leaves of a tree for the task at an index
pub leaves_at : (p : Parts) (x : Pending) (i : ℕ) (tree : Plan) (ts : List (List ℕ)) (rs : List (List Atom)) → Keeps p → i < length p.tasks.items → x ≡ get_or p.tasks.items i x → fits tree ≡ true → holds p.scene (atoms_of (task_of p.log x)) tree ≡ true →
    ts ≡ tilings p.scene (atoms_of (task_of p.log x)) tree → rs ≡ rests p.scene (atoms_of (task_of p.log x)) tree → AreLeaves p x.number i tree ts rs
leaves_at p x i tree ts rs keeps low is small right tilings_are rests_are =
    let ps = p.tasks.items in
    let number : x.number ≡ (get_or ps i x).number = ap (λ y. y.number) is in
    record {
      task = task_of p.log x;
      first = ap (λ k. position_from (λ q. q.number == k) 0 ps) number ∙ found_where 0 p.next 0 p.log ps i x keeps.whole.rising low ∙ ap (λ y. Some y) (let z : 0 + i ≡ i = omega arith in z);
      there = ap (λ k. find_task k (tasks_of p.log ps)) number ∙ find_where 0 p.next p.log ps i x keeps.whole.rising low ∙ ap (λ y. Some (task_of p.log y)) (sym is);
      small = small;
      cut = record { right = right; tilings = tilings_are; rests = rests_are };
    }

-- the leaves of a tree that was found for the task at an index
pub found_leaves_at : (nodes : ℕ) (p : Parts) (x : Pending) (i : ℕ) (tree : Plan) (ts : List (List ℕ)) (rs : List (List Atom)) → Keeps p → i < length p.tasks.items → x ≡ get_or p.tasks.items i x → fits tree ≡ true → holds p.scene (atoms_of (task_of p.log x)) tree ≡ true →
    ts ≡ tilings p.scene (atoms_of (task_of p.log x)) tree → rs ≡ rests p.scene (atoms_of (task_of p.log x)) tree → inner tree ≤ nodes → is_rest tree ≡ false →
    all_fewer p.scene (atoms_of (task_of p.log x)) (rests p.scene (atoms_of (task_of p.log x)) tree) ≡ true → AreFoundLeaves nodes p x.number i tree ts rs
unfolding leaves_at
found_leaves_at nodes p x i tree ts rs keeps low is small right tilings_are rests_are few root smaller = record {
  leaves = leaves_at p x i tree ts rs keeps low is small right tilings_are rests_are;
  few = few;
  root = root;
  smaller = smaller;
}
