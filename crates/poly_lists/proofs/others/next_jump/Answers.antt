use Rattle.std.proofs.Common.{arith, length, sym, ◌-◌, ◌<◌}
use Rattle.poly_lists.proofs.Linking.{jump_over, link_at}
use Rattle.poly_lists.proofs.others.next_jump.Goals as goal

pub offset_bounds-jumps-link : goal.offset_bounds-jumps-link
offset_bounds-jumps-link c =
    let link = link_at c.args.nodes.now (length c.args.jumps.now - 1) c.link-link.result c.requires.linked (omega (arith, c.requires.some, c.requires.next)) (sym c.link-link.ensures) in
    let within : c.link-link.result.before < length c.args.jumps.now = omega (arith, link.1, c.requires.some) in
    omega arith

pub bounds-jumps-link : goal.bounds-jumps-link
bounds-jumps-link c =
    let link = link_at c.args.nodes.now (length c.args.jumps.now - 1) c.link-link.result c.requires.linked (omega (arith, c.requires.some, c.requires.next)) (sym c.link-link.ensures) in
    omega (arith, link.1, c.requires.some)

pub returns-clause-ok : goal.returns-clause-ok
returns-clause-ok c =
    let ls = c.args.nodes.now in
    let node = length c.args.jumps.now in
    let l = c.link-link.result in
    let link = link_at ls (node - 1) l c.requires.linked (omega (arith, c.requires.some, c.requires.next)) (sym c.link-link.ensures) in
    let within : l.before < node = omega (arith, link.1, c.requires.some) in
    jump_over ls node _ l c.requires.linked c.requires.some c.requires.next (sym c.link-link.ensures) (c.requires.right l.before within) (c.has_other.ensures c.if-has_other.false)
