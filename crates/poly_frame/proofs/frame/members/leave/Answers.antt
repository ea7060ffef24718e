use Rattle.std.proofs.Common.{List, [], ap, length, subst, sym, ℕ, ◌++◌, ◌∙◌, ◌∷◌}
use Rattle.poly_atom.specs.declared.atom.Atom.TheVariants.{Lacks}
use Rattle.poly_frame.specs.FrameMembers.{SizesShow}
use Rattle.poly_frame.proofs.FrameMembers.{base_stays, sizes_more}
use Rattle.poly_frame.proofs.frame.members.leave.Goals as goal

pub returns-clause-base : goal.returns-clause-base
returns-clause-base c = c.requires.base ∙ base_stays c.args.node.now.view.now c.args.node.now.trail.now c.args.number

pub returns-clause-sizes : goal.returns-clause-sizes
returns-clause-sizes c =
    subst (λ (xs : List ℕ). SizesShow c.args.node.now.view.now (c.args.node.now.trail.now ++ Lacks c.args.number ∷ []) c.args.node.now.given xs) (sym c.push_reserved.ensures.items)
    (sizes_more c.args.node.now.view.now c.args.node.now.trail.now c.args.node.now.given c.args.sizes.now.items (Lacks c.args.number) (length c.args.members.now) c.requires.sizes (ap length c.requires.base))
