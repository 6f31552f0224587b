use Rattle.classes.proofs.OrderLaws.{argument_head}
use Rattle.classes.proofs.order.argument_head.Goals as goal

pub returns : goal.returns
returns c =
    let a = c.argument-a in
    argument_head c.args.nodes.now c.args.arguments.now c.args.heads.now c.args.node.0 c.args.j a.result.0
    c.node_in.result.0 c.requires.partition c.requires.node_bound.0 a.ensures.0 a.ensures.1 c.node_in.ensures.0
