-- What one more word changes, and what a word says.
use Rattle.std.specs.List.{slice_get}
use Rattle.std.proofs.Common.{Option, Some, [], All, List, ap, arith, get_or, length, option_to_list, refl, subst, suc, sym, zero, ℕ, ◌++◌, ◌+◌, ◌<◌, ◌∙◌, ◌∷◌, ◌≡◌}
use Rattle.std.proofs.lemmas.List.{get_or_default, length-append}
use Rattle.std.proofs.lemmas.List.Elements.{All-head, All-tail, All-weaker}
use Rattle.poly_atom.specs.declared.atom.Atom.{Atom}
use Rattle.std.proofs.lemmas.Option.{slice_get_read}
use Rattle.poly_lists.specs.Words.{IsBeginning, IsStored, Reads, Stores, link_of, links_of}
use Rattle.poly_lists.specs.declared.nodes.Link.{Link}
use Rattle.poly_lists.specs.declared.nodes.Word.{Word}
use Rattle.poly_lists.specs.declared.nodes.Word.TheVariants.{Back, Has, Lacks, Other}

pub links_length : (os : List Atom) (n : ℕ) (ws : List Word) → length (links_of os n ws) ≡ length ws
links_length os n [] = refl
links_length os n (w ∷ ws) = ap suc (links_length os (suc n) ws)

pub links_push : (os : List Atom) (n m : ℕ) (ws : List Word) (w : Word) → m ≡ n + length ws → links_of os n (ws ++ w ∷ []) ≡ links_of os n ws ++ link_of os m w ∷ []
links_push os n m [] w e = ap (λ k. link_of os k w ∷ []) (omega (arith, e))
links_push os n m (v ∷ ws) w e = ap (λ ls. link_of os n v ∷ ls) (links_push os (suc n) m ws w (omega (arith, e)))

earlier_other : (os more : List Atom) (i : ℕ) → i < length os → slice_get (os ++ more) i ≡ slice_get os i
earlier_other [] more i h = absurd (omega (arith, h))
earlier_other (a ∷ os) more zero h = refl
earlier_other (a ∷ os) more (suc i) h = earlier_other os more i (omega (arith, h))

-- more other atoms change no link
link_stays : (os more : List Atom) (n : ℕ) (w : Word) → IsStored (length os) w → link_of (os ++ more) n w ≡ link_of os n w
link_stays os more n (Has p) h = refl
link_stays os more n (Lacks p) h = refl
link_stays os more n (Other i) h = let same = earlier_other os more i h in λ k. record { before = n; atom = same k }
link_stays os more n (Back b) h = refl

links_stay : (os more : List Atom) (n : ℕ) (ws : List Word) → All (λ w. IsStored (length os) w) ws → links_of (os ++ more) n ws ≡ links_of os n ws
links_stay os more n [] h = refl
links_stay os more n (w ∷ ws) h =
    let here = link_stays os more n w (All-head (λ v. IsStored (length os) v) w ws h) in
    let there = links_stay os more (suc n) ws (All-tail (λ v. IsStored (length os) v) w ws h) in
    λ k. here k ∷ there k

stored_stays : (m n : ℕ) (w : Word) → m < suc n → IsStored m w → IsStored n w
stored_stays m n (Has p) e h = tt
stored_stays m n (Lacks p) e h = tt
stored_stays m n (Other i) e h = omega (arith, e, h)
stored_stays m n (Back b) e h = tt

-- the other atoms may grow
pub links_over : (os new : List Atom) (n : ℕ) (ws : List Word) → IsBeginning os new → All (λ w. IsStored (length os) w) ws → links_of new n ws ≡ links_of os n ws
links_over os new n ws b h = ap (λ o. links_of o n ws) b.is ∙ links_stay os b.more n ws h

pub all_over : (os new : List Atom) (ws : List Word) → IsBeginning os new → All (λ w. IsStored (length os) w) ws → All (λ w. IsStored (length new) w) ws
all_over os new ws b h =
    let longer : length os < suc (length new) = omega (arith, ap length b.is, length-append os b.more) in
    All-weaker (λ w. IsStored (length os) w) (λ w. IsStored (length new) w) (λ w s. stored_stays (length os) (length new) w longer s) ws h

-- one word more, for an atom
pub links_more : (os new : List Atom) (ws ws' : List Word) (w : Word) (a : Atom) → IsBeginning os new → All (λ v. IsStored (length os) v) ws → Stores new w a → ws' ≡ ws ++ w ∷ [] → links_of new 0 ws' ≡ links_of os 0 ws ++ (record { before = length (links_of os 0 ws); atom = Some a }) ∷ []
links_more os new ws ws' w a b h s is =
    let m = length (links_of os 0 ws) in
    let number : m ≡ 0 + length ws = omega (arith, links_length os 0 ws) in
    let before = links_over os new 0 ws b h in
    let last = s.says m in
    ap (λ v. links_of new 0 v) is ∙ links_push new 0 m ws w number ∙ (λ k. before k ++ last k ∷ [])

-- the link of the word at an index
link_found : (os : List Atom) (n i m : ℕ) (ws : List Word) (w : Word) (l : Link) → i < length ws → get_or ws i w ≡ w → m ≡ n + i → get_or (links_of os n ws) i l ≡ link_of os m w
link_found os n i m [] w l h g e = absurd (omega (arith, h))
link_found os n zero m (v ∷ ws) w l h g e =
    let same : n ≡ m = omega (arith, e) in
    λ k. link_of os (same k) (g k)
link_found os n (suc i) m (v ∷ ws) w l h g e = link_found os (suc n) i m ws w l (omega (arith, h)) g (omega (arith, e))

pub word_found : (os : List Atom) (ws : List Word) (i : ℕ) (w : Word) → i < length ws → get_or ws i (Has 0) ≡ w → (d : Link) → get_or (links_of os 0 ws) i d ≡ link_of os i w
word_found os ws i w h e = λ d. link_found os 0 i i ws w d h (get_or_default ws i w (Has 0) h ∙ e) (omega arith)

pub other_found : (os : List Atom) (ws : List Word) (i j : ℕ) (a : Atom) → i < length ws → get_or ws i (Has 0) ≡ Other j → All (λ w. IsStored (length os) w) ws → a ≡ get_or os j a → (d : Link) → get_or (links_of os 0 ws) i d ≡ record { before = i; atom = Some a }
other_found os ws i j a h e stored is = λ d.
    let within : j < length os = subst (λ w. IsStored (length os) w) e (stored i (Has 0) h) in
    let atom = slice_get_read os (length os) j a (omega arith) within is in
    word_found os ws i (Other j) h e d ∙ (λ k. record { before = i; atom = atom k })

pub reads_link : (ls : List Link) (i before : ℕ) (o : Option Atom) (old new : List Atom) → ((d : Link) → get_or ls i d ≡ record { before = before; atom = o }) → new ≡ old ++ option_to_list o → Reads ls i before old new
reads_link ls i before o old new found is = record {
  leads = λ d. ap (λ l. l.before) (found d);
  adds = λ d. is ∙ ap (λ l. old ++ option_to_list l.atom) (sym (found d));
}
