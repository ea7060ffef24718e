use Rattle.std.proofs.Common.{List, length, subst, sym, true, ◌≡◌, ℕ}
use Rattle.std.specs.List.{list_all}
use Rattle.std.specs.Prelude.{nat_lt}
use Rattle.poly_catalogue.specs.Catalogued.{HasFlags}
use Rattle.poly_catalogue.proofs.Flagged.{flags_append, flags_more}
use Rattle.poly_catalogue.proofs.add.add.Goals as goal

pub returns-clause-flags : goal.returns-clause-flags
returns-clause-flags c =
    let n = length c.reach_all.new.flags.items in
    let live = subst (λ (l : List ℕ). list_all (λ p. nat_lt p n) l ≡ true) c.live.ensures.value c.in_ok-reach_all.ensures.low in
    let all = flags_append c.args.view.now c.args.listing.now c.args.tilings.items n (flags_more c.args.listing.now (length c.args.flags.now.items) n c.reach_all.ensures.more c.reach_all.ensures.few c.requires.flags) live c.requires.tilings in
    subst (λ (l : List (List ℕ)). HasFlags l n) (sym c.in_ok-push_all.ensures.ok) all

pub returns-in_err-reach_all-clause-flags : goal.returns-in_err-reach_all-clause-flags
returns-in_err-reach_all-clause-flags c = flags_more c.args.listing.now (length c.args.flags.now.items) (length c.reach_all.new.flags.items) c.reach_all.ensures.more c.reach_all.ensures.few c.requires.flags

pub returns-in_err-reach_counts-clause-flags : goal.returns-in_err-reach_counts-clause-flags
returns-in_err-reach_counts-clause-flags c = flags_more c.args.listing.now (length c.args.flags.now.items) (length c.reach_all.new.flags.items) c.reach_all.ensures.more c.reach_all.ensures.few c.requires.flags

pub returns-in_err-push_all-clause-flags : goal.returns-in_err-push_all-clause-flags
returns-in_err-push_all-clause-flags c =
    let n = length c.reach_all.new.flags.items in
    subst (λ (l : List (List ℕ)). HasFlags l n) (sym c.in_err-push_all.ensures.err)
    (flags_more c.args.listing.now (length c.args.flags.now.items) n c.reach_all.ensures.more c.reach_all.ensures.few c.requires.flags)
