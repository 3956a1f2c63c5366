-- When two names of a packet's owner are one.
use Rattle.std.specs.Prelude.{Bool, true, false, ◌&&◌, ◌==◌}
use Rattle.rpc_base.specs.declared.owner.Owner.{Owner}
use Rattle.rpc_base.specs.declared.owner.Owner.TheVariants.{Ask, Reply, Control}

-- whether two owners are one: the same call, or the same request of a server session
abbrev pub same_owner : Owner → Owner → Bool
same_owner (Ask s r) (Ask session request) = s == session && r == request
same_owner (Reply t r) (Reply session request) = t == session && r == request
same_owner Control Control = true
same_owner _ _ = false
