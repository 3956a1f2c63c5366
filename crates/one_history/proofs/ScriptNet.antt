-- In a history that follows a script the network notes no event but its own.
use Rattle.std.proofs.Common.{◌≡◌, true, List}
use Rattle.one_history.proofs.FactsTold.{IsSound, NotesOwn}
use Rattle.one_history.proofs.ScriptTold.{all-sound}
use Rattle.one_history.specs.NetFacts.{AllOfNet, is_of_net}
use Rattle.rpc_base.proofs.FirstLemmas.{all-each}
use Rattle.rpc_base.specs.declared.event.Event.{Event}
use Rattle.rpc_base.specs.declared.fact.Fact.{Fact}
use Rattle.rpc_base.specs.declared.fact.Who.{Who}
use Rattle.rpc_base.specs.declared.fact.Who.TheVariants.{Node, Net}
use Rattle.script_grammar.specs.declared.line.Line.{Line}
use Rattle.sim_script.specs.FollowsScript.{Follows}

own-of-net : (who : Who) (e : Event) → NotesOwn who e → who ≡ Net → is_of_net e ≡ true
own-of-net (Node n) e own at = cc
own-of-net Net e own at = own

pub all-of-net : (script : List Line) (h : List Fact) → Follows script h → AllOfNet h
all-of-net script h f =
    all-each IsSound (λ (g : Fact). g.who ≡ Net → is_of_net g.event ≡ true) h
    (λ g s. own-of-net g.who g.event s.1) (all-sound script h f)
