use Rattle.std.proofs.Common.{ap, take, ◌∙◌, sym}
use Rattle.std.proofs.lemmas.List.{take-map}
use Rattle.poly_lists.specs.Linked.{at_node, ended}
use Rattle.poly_lists.proofs.atom_lists.AtomLists.truncate.Goals as goal

pub returns : goal.returns
returns c =
    ap (λ e. ended c.self.inside.nodes e) c.truncate.ensures.items ∙ sym (take-map (λ e. at_node c.self.inside.nodes e) c.args.len c.self.inside.ends.items)
    ∙ ap (λ l. take c.args.len l) c.self.view_is
