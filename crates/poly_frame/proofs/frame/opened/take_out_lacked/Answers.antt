use Rattle.std.proofs.Common.{ap, arith, get_or, not, refl, sym, ◌&&◌, ◌∙◌}
use Rattle.std.specs.List.{list_any}
use Rattle.std.proofs.lemmas.List.{take_all}
use Rattle.poly_atom.specs.declared.atom.Atom.{Atom}
use Rattle.poly_atom.specs.Hopeless.{lacks}
use Rattle.poly_frame.specs.Bits.{has_bit}
use Rattle.poly_frame.proofs.Matrices.{out_more}
use Rattle.poly_frame.proofs.Walks.{and_true_right}
use Rattle.poly_frame.proofs.frame.opened.take_out_lacked.Goals as goal

pub returns-clause-bits : goal.returns-clause-bits
returns-clause-bits c = λ j h.
    c.loop-atom.invariant.bits j h ∙ ap (λ xs. has_bit c.args.row.now.items j && not (list_any (λ a. lacks a (get_or c.args.whole.now.numbers.items j 0)) xs)) (take_all c.loop-atom.atom-index c.args.atoms.now (omega (arith, c.loop-atom-test.false)))

pub loop-atom-init : goal.loop-atom-init
loop-atom-init c = record { len = refl; past = λ j e. e; bits = λ j h. sym (and_true_right (has_bit c.args.row.now.items j)) }

pub loop-atom-preserved : goal.loop-atom-preserved
loop-atom-preserved c =
    let inv = c.loop-atom.invariant in
    record {
      len = c.take_out_lacked_by.ensures.len ∙ inv.len;
      past = λ j e. c.take_out_lacked_by.ensures.past j (inv.past j e);
      bits = λ j h.
          let q = get_or c.args.whole.now.numbers.items j 0 in
          out_more (λ a. lacks a q) c.args.atoms.now c.loop-atom.atom-index c.atom-item.result (has_bit c.args.row.now.items j) (has_bit c.loop-atom.row.items j) (has_bit c.take_out_lacked_by.new.row.items j) c.loop-atom-test.true (inv.bits j h) (c.take_out_lacked_by.ensures.bits j h ∙ ap (λ (a : Atom). has_bit c.loop-atom.row.items j && not (lacks a q)) c.atom-item.is);
    }

pub take_out_lacked_by-requires : goal.take_out_lacked_by-requires
take_out_lacked_by-requires c = record { part = c.requires.part; len = c.loop-atom.invariant.len ∙ c.requires.len }

pub returns-clause-past : goal.returns-clause-past
returns-clause-past c = c.loop-atom.invariant.past
