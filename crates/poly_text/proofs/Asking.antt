-- The question that a loop gathers from the words of `browse`, or its refusal.
use Rattle.std.proofs.Common.{◌≡◌, ℕ, ◌==◌, ◌+◌, ◌-◌, ◌≤◌, Bool, true, false, List, [], ◌∷◌, ◌++◌, length, length-drop, get_or, take, drop, Some, None, Result, Ok, Err, refl, sym, ap, subst, ◌∙◌, arith}
use Rattle.std.specs.List.{position}
use Rattle.std.proofs.lemmas.Bool.{false≢true}
use Rattle.std.proofs.lemmas.List.{take_all}
use Rattle.poly_grid.specs.Spot.{Spot}
use Rattle.poly_grid.specs.declared.refusal.Refusal.{Refusal}
use Rattle.poly_grid.specs.declared.refusal.Refusal.TheVariants.{BadShape}
use Rattle.poly_shape.specs.Order.{AreFewDistinct}
use Rattle.poly_design.specs.declared.placement.Placement.{Placement}
use Rattle.poly_tiling.specs.declared.item.Item.{Item}
use Rattle.poly_text.specs.declared.command.queries.QueryWord.TheVariants as kept_as
use Rattle.poly_text.specs.Asked.{Asked}
use Rattle.poly_text.specs.Gives.{Follows}
use Rattle.poly_text.specs.Queries.{Query, Named, has, lacks, covers, named_cells, item_of, query_of, had, lacked, covered, Makes, AreMade, MakeSets, IsQuestion, QuestionSays}
use Rattle.poly_text.specs.Names.{name_of}
use Rattle.poly_text.specs.Read.{IsReadAs}
use Rattle.poly_text.specs.Words.{listed_cells}

-- after the first n elements of a list, at most `length xs - n` are left, so taking that many takes all of these
pub rest_from : {A : Type 0} (n : ℕ) (xs : List A) → take (length xs - n) (drop n xs) ≡ drop n xs
rest_from n xs = take_all (length xs - n) (drop n xs) (omega (arith, length-drop n xs))

-- the same for the part of a word after its first byte
rest_of : (word : List ℕ) → take (length word - 1) (drop 1 word) ≡ drop 1 word
rest_of word = rest_from 1 word

plus : (word : List ℕ) (n : Named) → 1 ≤ length word → get_or word 0 0 ≡ 43 → named_cells (drop 1 word) ≡ Ok n → query_of word ≡ Ok (has n)
plus [] n some is read = absurd (omega (arith, some))
plus (b ∷ bs) n some is read = rw (is, read) refl

minus : (word : List ℕ) (n : Named) → 1 ≤ length word → get_or word 0 0 ≡ 45 → named_cells (drop 1 word) ≡ Ok n → query_of word ≡ Ok (lacks n)
minus [] n some is read = absurd (omega (arith, some))
minus (b ∷ bs) n some is read = rw (is, read) refl

at_sign : (word : List ℕ) (i : Item) → 1 ≤ length word → get_or word 0 0 ≡ 64 → item_of (drop 1 word) ≡ Ok i → query_of word ≡ Ok (covers i)
at_sign [] i some is read = absurd (omega (arith, some))
at_sign (b ∷ bs) i some is read = rw (is, read) refl

pub query_plus : (word : List ℕ) (n : Named) → 1 ≤ length word → get_or word 0 0 ≡ 43 → named_cells (take (length word - 1) (drop 1 word)) ≡ Ok n → query_of word ≡ Ok (has n)
query_plus word n some is read = plus word n some is (ap named_cells (sym (rest_of word)) ∙ read)

pub query_minus : (word : List ℕ) (n : Named) → 1 ≤ length word → get_or word 0 0 ≡ 45 → named_cells (take (length word - 1) (drop 1 word)) ≡ Ok n → query_of word ≡ Ok (lacks n)
query_minus word n some is read = minus word n some is (ap named_cells (sym (rest_of word)) ∙ read)

pub query_at : (word : List ℕ) (i : Item) → 1 ≤ length word → get_or word 0 0 ≡ 64 → item_of (take (length word - 1) (drop 1 word)) ≡ Ok i → query_of word ≡ Ok (covers i)
query_at word i some is read = at_sign word i some is (ap item_of (sym (rest_of word)) ∙ read)

-- a name with cells is read from the parts of the text before and after the equals sign
pub named_is : (text : List ℕ) (equals : ℕ) (name : List ℕ) (cells : List Spot) → position (λ b. b == 61) text ≡ Some equals → name_of (take equals text) ≡ Some name → listed_cells (take (length text - (equals + 1)) (drop (equals + 1) text)) ≡ Ok cells
    → named_cells text ≡ Ok (name, cells)
unfolding named_cells
named_is text equals name cells place named listed = rw (place, named, ap listed_cells (sym (rest_from (equals + 1) text)) ∙ listed) refl

-- one more query adds its own placement or item
had_more : (qs : List Query) (q : Query) → had (qs ++ q ∷ []) ≡ had qs ++ had (q ∷ [])
had_more [] q = refl
had_more (has n ∷ qs) q = ap (λ z. n ∷ z) (had_more qs q)
had_more (lacks n ∷ qs) q = had_more qs q
had_more (covers i ∷ qs) q = had_more qs q

lacked_more : (qs : List Query) (q : Query) → lacked (qs ++ q ∷ []) ≡ lacked qs ++ lacked (q ∷ [])
lacked_more [] q = refl
lacked_more (has n ∷ qs) q = lacked_more qs q
lacked_more (lacks n ∷ qs) q = ap (λ z. n ∷ z) (lacked_more qs q)
lacked_more (covers i ∷ qs) q = lacked_more qs q

covered_more : (qs : List Query) (q : Query) → covered (qs ++ q ∷ []) ≡ covered qs ++ covered (q ∷ [])
covered_more [] q = refl
covered_more (has n ∷ qs) q = covered_more qs q
covered_more (lacks n ∷ qs) q = covered_more qs q
covered_more (covers i ∷ qs) q = ap (λ z. i ∷ z) (covered_more qs q)

nothing_more : {A : Type 0} (xs : List A) → xs ++ [] ≡ xs
nothing_more [] = refl
nothing_more (x ∷ xs) = ap (λ z. x ∷ z) (nothing_more xs)

made_more : (ns : List Named) (ps : List Placement) (n : Named) (p : Placement) → AreMade ns ps → Makes n (Some p) → AreMade (ns ++ n ∷ []) (ps ++ p ∷ [])
made_more [] [] n p made one = (one, tt)
made_more [] (q ∷ ps) n p made one = absurd made
made_more (m ∷ ns) [] n p made one = absurd made
made_more (m ∷ ns) (q ∷ ps) n p made one = (made.0, made_more ns ps n p made.1 one)

-- if all lists of cells make sets, then so do those before the last one, and so does the last one
sets_before : (ns : List Named) (n : Named) → MakeSets (ns ++ n ∷ []) → MakeSets ns × AreFewDistinct n.1
sets_before [] n sets = (tt, sets.0)
sets_before (m ∷ ns) n sets = let rest = sets_before ns n sets.1 in ((sets.0, rest.0), rest.1)

abbrev pub NoSets : List Query → Type 0
NoSets qs = MakeSets (had qs) × MakeSets (lacked qs) → ⊥

-- what the loop knows of the queries so far: if `are_sets` is true, the lists are the question of these queries; if it is
-- false, some list of cells makes no set
pub record Kept (qs : List Query) (having lacking : List Placement) (covering : List Item) (are_sets : Bool) : Type 0 where
  pub made : are_sets ≡ true → IsQuestion qs (record { has = having; lacks = lacking; covers = covering })
  pub not_made : are_sets ≡ false → NoSets qs

pub kept_none : (having lacking : List Placement) (covering : List Item) → having ≡ [] → lacking ≡ [] → covering ≡ [] → Kept [] having lacking covering true
kept_none having lacking covering h l v = record { made = λ e. record { has = rw h tt; lacks = rw l tt; covers = v }; not_made = λ e. absurd (false≢true (sym e)) }

still_none : (qs : List Query) (q : Query) → NoSets qs → NoSets (qs ++ q ∷ [])
still_none qs (has n) none sets = none ((sets_before (had qs) n (subst MakeSets (had_more qs (has n)) sets.0)).0, subst MakeSets (lacked_more qs (has n) ∙ nothing_more (lacked qs)) sets.1)
still_none qs (lacks n) none sets = none (subst MakeSets (had_more qs (lacks n) ∙ nothing_more (had qs)) sets.0, (sets_before (lacked qs) n (subst MakeSets (lacked_more qs (lacks n)) sets.1)).0)
still_none qs (covers i) none sets = none (subst MakeSets (had_more qs (covers i) ∙ nothing_more (had qs)) sets.0, subst MakeSets (lacked_more qs (covers i) ∙ nothing_more (lacked qs)) sets.1)

same_had : (qs : List Query) (q : Query) (ps : List Placement) → had (q ∷ []) ≡ [] → AreMade (had qs) ps → AreMade (had (qs ++ q ∷ [])) ps
same_had qs q ps none made = subst (λ z. AreMade z ps) (sym (had_more qs q ∙ ap (λ z. had qs ++ z) none ∙ nothing_more (had qs))) made

same_lacked : (qs : List Query) (q : Query) (ps : List Placement) → lacked (q ∷ []) ≡ [] → AreMade (lacked qs) ps → AreMade (lacked (qs ++ q ∷ [])) ps
same_lacked qs q ps none made = subst (λ z. AreMade z ps) (sym (lacked_more qs q ∙ ap (λ z. lacked qs ++ z) none ∙ nothing_more (lacked qs))) made

same_covered : (qs : List Query) (q : Query) (is : List Item) → covered (q ∷ []) ≡ [] → is ≡ covered qs → is ≡ covered (qs ++ q ∷ [])
same_covered qs q is none same = same ∙ sym (covered_more qs q ∙ ap (λ z. covered qs ++ z) none ∙ nothing_more (covered qs))

pub kept_has : (qs : List Query) (q : Query) (having lacking more : List Placement) (covering : List Item) (are_sets : Bool) (p : Placement) → IsReadAs q (kept_as.Has (Some p)) → more ≡ having ++ p ∷ []
    → Kept qs having lacking covering are_sets → Kept (qs ++ q ∷ []) more lacking covering are_sets
kept_has qs (lacks n) having lacking more covering are_sets p read is kept = absurd read
kept_has qs (covers i) having lacking more covering are_sets p read is kept = absurd read
kept_has qs (has n) having lacking more covering are_sets p read is kept = record {
  made = λ e. let so_far = kept.made e in record {
    has = rw (is, had_more qs (has n)) (made_more (had qs) having n p so_far.has read);
    lacks = same_lacked qs (has n) lacking refl so_far.lacks;
    covers = same_covered qs (has n) covering refl so_far.covers;
  };
  not_made = λ e. still_none qs (has n) (kept.not_made e);
}

pub kept_lacks : (qs : List Query) (q : Query) (having lacking more : List Placement) (covering : List Item) (are_sets : Bool) (p : Placement) → IsReadAs q (kept_as.Lacks (Some p)) → more ≡ lacking ++ p ∷ []
    → Kept qs having lacking covering are_sets → Kept (qs ++ q ∷ []) having more covering are_sets
kept_lacks qs (has n) having lacking more covering are_sets p read is kept = absurd read
kept_lacks qs (covers i) having lacking more covering are_sets p read is kept = absurd read
kept_lacks qs (lacks n) having lacking more covering are_sets p read is kept = record {
  made = λ e. let so_far = kept.made e in record {
    has = same_had qs (lacks n) having refl so_far.has;
    lacks = rw (is, lacked_more qs (lacks n)) (made_more (lacked qs) lacking n p so_far.lacks read);
    covers = same_covered qs (lacks n) covering refl so_far.covers;
  };
  not_made = λ e. still_none qs (lacks n) (kept.not_made e);
}

pub kept_covers : (qs : List Query) (q : Query) (having lacking : List Placement) (covering more : List Item) (are_sets : Bool) (i : Item) → IsReadAs q (kept_as.Covers i) → more ≡ covering ++ i ∷ []
    → Kept qs having lacking covering are_sets → Kept (qs ++ q ∷ []) having lacking more are_sets
kept_covers qs (has n) having lacking covering more are_sets i read is kept = absurd read
kept_covers qs (lacks n) having lacking covering more are_sets i read is kept = absurd read
kept_covers qs (covers j) having lacking covering more are_sets i read is kept = record {
  made = λ e. let so_far = kept.made e in record {
    has = same_had qs (covers j) having refl so_far.has;
    lacks = same_lacked qs (covers j) lacking refl so_far.lacks;
    covers = is ∙ ap (λ z. z ++ i ∷ []) so_far.covers ∙ ap (λ z. covered qs ++ z ∷ []) (sym read) ∙ sym (covered_more qs (covers j));
  };
  not_made = λ e. still_none qs (covers j) (kept.not_made e);
}

-- if the cells of the last query make no set, not every list of cells makes a set
none_has : (qs : List Query) (n : Named) → (AreFewDistinct n.1 → ⊥) → NoSets (qs ++ has n ∷ [])
none_has qs n none sets = none (sets_before (had qs) n (subst MakeSets (had_more qs (has n)) sets.0)).1

none_lacks : (qs : List Query) (n : Named) → (AreFewDistinct n.1 → ⊥) → NoSets (qs ++ lacks n ∷ [])
none_lacks qs n none sets = none (sets_before (lacked qs) n (subst MakeSets (lacked_more qs (lacks n)) sets.1)).1

pub kept_no_has : (qs : List Query) (q : Query) (having lacking : List Placement) (covering : List Item) → IsReadAs q (kept_as.Has None) → Kept (qs ++ q ∷ []) having lacking covering false
kept_no_has qs (has n) having lacking covering read = record { made = λ e. absurd (false≢true e); not_made = λ e. none_has qs n read }
kept_no_has qs (lacks n) having lacking covering read = absurd read
kept_no_has qs (covers i) having lacking covering read = absurd read

pub kept_no_lacks : (qs : List Query) (q : Query) (having lacking : List Placement) (covering : List Item) → IsReadAs q (kept_as.Lacks None) → Kept (qs ++ q ∷ []) having lacking covering false
kept_no_lacks qs (has n) having lacking covering read = absurd read
kept_no_lacks qs (lacks n) having lacking covering read = record { made = λ e. absurd (false≢true e); not_made = λ e. none_lacks qs n read }
kept_no_lacks qs (covers i) having lacking covering read = absurd read

-- if all words were read, the result is the question of their queries
pub gathered : (total : Result (List Query) Refusal) (qs : List Query) (q : Asked) → total ≡ Ok qs → IsQuestion qs q → Follows {B = Asked} total (λ queries. QuestionSays queries (Ok q)) (Ok q)
gathered total qs q is made = rw is made

pub no_sets : (total : Result (List Query) Refusal) (qs : List Query) → total ≡ Ok qs → NoSets qs → Follows {B = Asked} total (λ queries. QuestionSays queries (Err BadShape)) (Err BadShape)
no_sets total qs is none = rw is (refl, none)

pub refused : (total : Result (List Query) Refusal) (e : Refusal) → total ≡ Err e → Follows {B = Asked} total (λ queries. QuestionSays queries (Err e)) (Err e)
refused total e is = rw is refl
