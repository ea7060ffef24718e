use Rattle.std.proofs.Common.{List, ap, length, subst, ℕ, ◌∙◌, sym}
use Rattle.poly_atom.specs.Hopeless.{base}
use Rattle.poly_frame.specs.FrameConsistent.{ConsistentShows}
use Rattle.poly_frame.specs.FrameTable.{HaveShows}
use Rattle.poly_frame.proofs.frame.levels.counted_of.Goals as goal

pub returns : goal.returns
returns c =
    let v = c.args.view.now in
    let A = c.args.atoms.now in
    record {
      len = c.in_ok-consistent.ensures.len;
      row = c.in_ok-consistent.ensures.row;
      consistent = subst (λ (n : ℕ). ConsistentShows v A (length A) n) (sym c.in_ok-counted.ensures.consistent) c.in_ok-consistent.ensures.consistent;
      have_len = ap length c.in_ok-counted.ensures.have ∙ c.in_ok-have.ensures.len;
      have = subst (λ (xs : List ℕ). HaveShows v (base v A) xs) (sym c.in_ok-counted.ensures.have) (subst (λ (T : List ℕ). HaveShows v T c.in_ok-have.have.items) c.requires.base c.in_ok-have.ensures.value);
      table = c.in_ok-counted.ensures.table;
      why = tt;
    }
