use Rattle.std.proofs.Common.{List, [], ap, arith, length, subst, sym, ℕ, ◌++◌, ◌∙◌, ◌∷◌}
use Rattle.poly_atom.specs.declared.atom.Atom.TheVariants.{Has}
use Rattle.poly_frame.specs.FrameMembers.{SizesShow}
use Rattle.poly_tiling.specs.Lists.{put}
use Rattle.poly_frame.proofs.Steps.{base_pick}
use Rattle.poly_frame.proofs.FrameMembers.{base_few, sizes_more}
use Rattle.poly_frame.proofs.frame.members.pick.Goals as goal

pub put_number-requires : goal.put_number-requires
put_number-requires c = omega (arith, c.args.members.now.ok.0, ap length c.requires.base, base_few c.args.node.now.view.now c.args.node.now.trail.now, c.requires.room)

pub returns-clause-base : goal.returns-clause-base
returns-clause-base c = c.put_number.ensures.items ∙ ap (λ xs. put c.args.number xs) c.requires.base ∙ sym (base_pick c.args.node.now.view.now c.args.node.now.trail.now c.args.number)

pub returns-clause-sizes : goal.returns-clause-sizes
returns-clause-sizes c =
    subst (λ (xs : List ℕ). SizesShow c.args.node.now.view.now (c.args.node.now.trail.now ++ Has c.args.number ∷ []) c.args.node.now.given xs) (sym c.push_reserved.ensures.items)
    (sizes_more c.args.node.now.view.now c.args.node.now.trail.now c.args.node.now.given c.args.sizes.now.items (Has c.args.number) c.len.result c.requires.sizes (c.len.ensures ∙ c.args.members.now.ok.0 ∙ ap length c.requires.base))
