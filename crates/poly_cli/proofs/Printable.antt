-- The tilings that an engine returns can be printed.
use Rattle.std.proofs.Common.{◌≡◌, ◌<◌, ℕ, Bool, true, false, List, [], ◌∷◌, refl, ◌∙◌, ap, arith, length, map, inl, inr, nat_lt}
use Rattle.std.specs.List.{All, Contains}
use Rattle.std.proofs.lemmas.List.Elements.{All-weaker, All-contains_itself}
use Rattle.poly_design.specs.Layout.{Layout}
use Rattle.poly_tiling.specs.Laws.{NumbersShow}
use Rattle.poly_tiling.specs.Listings.{ListingsShow, IsListOfTilings}
use Rattle.poly_tiling.specs.Lists.{one, same_list, tally}
use Rattle.poly_tiling.specs.Puzzle.{View, is_tiling}
use Rattle.poly_tiling.specs.Shows.{given, names}
use Rattle.poly_tiling.specs.Tilings.{IsTiling}
use Rattle.poly_tiling.specs.TilingOrder.{placed}
use Rattle.poly_tiling.proofs.Ascending.{same_list_self}
use Rattle.poly_tiling.proofs.Contained.{contains_in, in_contains}
use Rattle.poly_tiling.proofs.Lists.{In, all_from, all_in, in_map}
use Rattle.poly_tiling.proofs.Tilings.{parts}
use Rattle.poly_book.specs.AllTilings.{AllTilings, HasAll}
use Rattle.poly_cli.specs.Listings.{IsPrintable}
use Rattle.poly_cli.proofs.Covered.{covered_few}

tally_some : (T : List ℕ) (all : List (List ℕ)) → In T all → 0 < tally (same_list T) all
tally_some T [] here = absurd here
tally_some T (U ∷ all) (inl e) = let own : one (same_list T U) ≡ 1 = ap one (ap (same_list T) e ∙ same_list_self T) in omega (arith, own)
tally_some T (U ∷ all) (inr here) = omega (arith, tally_some T all here)

one_true : (b : Bool) → 0 < one b → b ≡ true
one_true true h = refl
one_true false h = absurd (omega (arith, h))

module _ (q : AllTilings) (l : HasAll q) where
  abbrev d : Layout
  d = q.design

  abbrev v : View
  v = q.view

  abbrev all : List (List ℕ)
  all = q.tilings

  listed : ListingsShow → IsListOfTilings d (map (placed v) all)
  listed law = law v d all l.well l.shows l.each l.order

  pub tiles : (T : List ℕ) → In T all → is_tiling v T ≡ true
  tiles T here = let some = tally_some T all here in one_true (is_tiling v T) (omega (arith, some, l.each T))

  named : (T : List ℕ) → is_tiling v T ≡ true → given v T ≡ true
  named T tiling = all_from (λ n. nat_lt n (length v.placements)) T (λ n here. all_in (λ n. nat_lt n (length v.placements)) v.live l.well.named n ((parts v T tiling).placed n here))

  printable : NumbersShow → ListingsShow → (T : List ℕ) → In T all → IsPrintable v T
  printable show law T here =
      let tiling = tiles T here in
      let tiled : IsTiling d (names v T) = (show v d T l.well l.shows (parts v T tiling).up (named T tiling)).0 tiling in
      record {
        tiling = tiling;
        differ = tiled.single;
        ascends = (((listed law).exact (placed v T)).0 (in_contains (map (placed v) all) (placed v T) (in_map (placed v) all T here))).1;
        short = covered_few d l.is_design (names v T) tiled;
      }

  pub all_printable : NumbersShow → ListingsShow → All (IsPrintable v) all
  all_printable show law = All-weaker (Contains all) (IsPrintable v) (λ T here. printable show law T (contains_in all T here)) all (All-contains_itself all)
