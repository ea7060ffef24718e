use Rattle.std.proofs.Common.{None, Some, sym}
use Rattle.std.proofs.lemmas.List.{append-nil}
use Rattle.poly_atom.specs.declared.atom.Atom.TheVariants.{Has as HasAtom, Lacks as LacksAtom}
use Rattle.poly_lists.specs.Words.{links_of}
use Rattle.poly_lists.proofs.Stored.{other_found, reads_link, word_found}
use Rattle.poly_lists.specs.declared.nodes.Word.TheVariants.{Back, Has, Lacks}
use Rattle.poly_lists.proofs.nodes.read_at.Goals as goal

pub returns-in_ok-push-in-Has-clause-ok : goal.returns-in_ok-push-in-Has-clause-ok
returns-in_ok-push-in-Has-clause-ok c =
    let found = word_found c.args.others.now c.args.words.now c.args.index (Has c.in-Has.placement) c.requires.index c.in-Has.is in
    reads_link (links_of c.args.others.now 0 c.args.words.now) c.args.index c.args.index (Some (HasAtom c.in-Has.placement)) c.args.buffer.now.items c.push.new.self.items found c.in_ok-push-in-Has.ensures.items

pub returns-in_ok-push-in-Lacks-clause-ok : goal.returns-in_ok-push-in-Lacks-clause-ok
returns-in_ok-push-in-Lacks-clause-ok c =
    let found = word_found c.args.others.now c.args.words.now c.args.index (Lacks c.in-Lacks.placement) c.requires.index c.in-Lacks.is in
    reads_link (links_of c.args.others.now 0 c.args.words.now) c.args.index c.args.index (Some (LacksAtom c.in-Lacks.placement)) c.args.buffer.now.items c.push-in-Lacks.new.self.items found c.in_ok-push-in-Lacks.ensures.items

pub returns-in_ok-extend_from_slice-in-Other-clause-ok : goal.returns-in_ok-extend_from_slice-in-Other-clause-ok
returns-in_ok-extend_from_slice-in-Other-clause-ok c =
    let found = other_found c.args.others.now c.args.words.now c.args.index c.in-Other.other c.index-others-other.result c.requires.index c.in-Other.is c.requires.stored c.index-others-other.is in
    reads_link (links_of c.args.others.now 0 c.args.words.now) c.args.index c.args.index (Some c.index-others-other.result) c.args.buffer.now.items c.extend_from_slice.new.self.items found c.in_ok-extend_from_slice-in-Other.ensures.items

pub returns-in-Back-clause-ok : goal.returns-in-Back-clause-ok
returns-in-Back-clause-ok c =
    let found = word_found c.args.others.now c.args.words.now c.args.index (Back c.in-Back.node) c.requires.index c.in-Back.is in
    reads_link (links_of c.args.others.now 0 c.args.words.now) c.args.index c.in-Back.node None c.args.buffer.now.items c.args.buffer.now.items found (sym (append-nil c.args.buffer.now.items))
