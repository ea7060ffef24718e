use Rattle.std.proofs.Common.{None, Some, sym}
use Rattle.poly_atom.specs.declared.atom.Atom.TheVariants.{Has as HasAtom, Lacks as LacksAtom}
use Rattle.poly_lists.proofs.Stored.{other_found, word_found}
use Rattle.poly_lists.specs.declared.nodes.Word.TheVariants.{Back, Has, Lacks}
use Rattle.poly_lists.proofs.nodes.link_at.Goals as goal

pub returns-in-Has : goal.returns-in-Has
returns-in-Has c = sym (word_found c.args.others.now c.args.words.now c.args.index (Has c.in-Has.placement) c.requires.index c.in-Has.is (record { before = c.args.index; atom = Some (HasAtom c.in-Has.placement) }))

pub returns-in-Lacks : goal.returns-in-Lacks
returns-in-Lacks c = sym (word_found c.args.others.now c.args.words.now c.args.index (Lacks c.in-Lacks.placement) c.requires.index c.in-Lacks.is (record { before = c.args.index; atom = Some (LacksAtom c.in-Lacks.placement) }))

pub returns-in-Other : goal.returns-in-Other
returns-in-Other c = sym (other_found c.args.others.now c.args.words.now c.args.index c.in-Other.other c.index-others-other.result c.requires.index c.in-Other.is c.requires.stored c.index-others-other.is (record { before = c.args.index; atom = Some c.index-others-other.result }))

pub returns-in-Back : goal.returns-in-Back
returns-in-Back c = sym (word_found c.args.others.now c.args.words.now c.args.index (Back c.in-Back.node) c.requires.index c.in-Back.is (record { before = c.in-Back.node; atom = None }))
