-- The least size of a plan, and when a plan fits.
use Rattle.std.proofs.Common.{arith, false, leb, true, ℕ, ◌&&◌, ◌<◌, ◌≡◌, ◌≤◌}
use Rattle.std.proofs.lemmas.Bool.{and_from, and_parts, false_from_ne_true, le-leb, leb-true}
use Rattle.poly_report.specs.Trees.{Branches, Finds, Plan, Rests, Splits}
use Rattle.poly_report.specs.Sizes.{deep, fits, total}

pub total_some : (t : Plan) → 1 ≤ total t
total_some Rests = omega arith
total_some Finds = omega arith
total_some (Branches i arms) = omega arith
total_some (Splits q taken left) = omega arith

pub deep_some : (t : Plan) → 1 ≤ deep t
deep_some Rests = omega arith
deep_some Finds = omega arith
deep_some (Branches i arms) = omega arith
deep_some (Splits q taken left) = omega arith

pub fits_from : (t : Plan) (n d : ℕ) → total t ≤ n → deep t ≤ d → (leb (total t) n && leb (deep t) d) ≡ true
fits_from t n d a b = and_from _ _ (le-leb _ _ a) (le-leb _ _ b)

pub fits_not : (t : Plan) (n d : ℕ) → (total t ≤ n → d < deep t) → (leb (total t) n && leb (deep t) d) ≡ false
fits_not t n d h = false_from_ne_true _ (λ y.
    let parts = and_parts (leb (total t) n) (leb (deep t) d) y in
    let a = h (leb-true _ _ parts.0) in
    let b = leb-true _ _ parts.1 in
    absurd (omega arith))

pub fits_total : (t : Plan) → fits t ≡ true → total t ≤ 4096
fits_total t h = leb-true (total t) 4096 (and_parts (leb (total t) 4096) (leb (deep t) 512) h).0
