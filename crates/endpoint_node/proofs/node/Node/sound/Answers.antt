use Rattle.endpoint_node.proofs.node.Node.sound.Goals as goal

pub returns-clause-handed : goal.returns-clause-handed
returns-clause-handed c = rw (← c.self.view_is) c.sound.ensures.handed
