-- Each group of facts of a node has no other bytes than its lines show, whatever made it.
use Rattle.std.proofs.Common.{ℕ, [], ◌∷◌}
use Rattle.report_text.specs.Told.{IsTold}
use Rattle.rpc_base.specs.declared.event.Event.{Event}
use Rattle.rpc_base.proofs.FirstLemmas.{all-each}
use Rattle.rpc_laws.specs.Facts.{plain}
use Rattle.rpc_laws.specs.NodeLists.{new_node}
use Rattle.rpc_laws.specs.PollOrder.{FinishesOne, FinishesSome, Sends, SendsSome}
use Rattle.rpc_outside.specs.declared.service.Mode.{Mode}
use Rattle.node_laws.specs.NodeRun.{asks, connects, delivers, disconnects, Group, misses, Notes}
use Rattle.node_laws.specs.NodeRun.{pairs_client, pairs_server, polls, refuses, sets_rate, works}
use Rattle.one_history.specs.RunsTold.{RunsTellTheirBytes}
use Rattle.one_history.proofs.FactsTold.{IsSound, one-plain}
use Rattle.one_history.proofs.ScriptTold.{Tells, tells-asks, tells-chain, tells-connects}
use Rattle.one_history.proofs.ScriptTold.{tells-delivers, tells-disconnects, tells-finishes}
use Rattle.one_history.proofs.ScriptTold.{tells-poll-by, tells-rates, tells-sends, told-by}

tells-note : (e : Event) → Tells (Notes e)
tells-note e s x t h = told-by x (plain s.lists.me e ∷ []) h.facts (one-plain s.lists.me e)

tells-some : Tells FinishesSome
tells-some s x t h =
    tells-chain FinishesOne
    (λ v y u k. tells-finishes k.session k.request v y u k.finishes) s h

tells-sends-some : Tells SendsSome
tells-sends-some s x t h = tells-chain Sends tells-sends s h

tells-group : (mode : ℕ → Mode) → Tells (Group mode)
tells-group mode s x t (pairs_client peer server credits life may h) = tells-note _ s x t h
tells-group mode s x t (pairs_server peer client credits life may h) = tells-note _ s x t h
tells-group mode s x t (refuses credits few e refused h) = tells-note e s x t h
tells-group mode s x t (connects peer credits rate few h) = tells-connects peer credits rate s x t h
tells-group mode s x t (disconnects session h) = tells-disconnects session s x t h
tells-group mode s x t (sets_rate session rate h) = tells-rates session rate s x t h
tells-group mode s x t (asks session req_type ask room h) =
    tells-asks session req_type ask room s x t h
tells-group mode s x t (delivers peer bytes h) = tells-delivers peer bytes s x t h
tells-group mode s x t (polls now h) =
    tells-poll-by FinishesSome SendsSome tells-some tells-sends-some mode now s x t h
tells-group mode s x t (works session request out h) = tells-note _ s x t h
tells-group mode s x t (misses i h) = tells-note _ s x t h

pub runs-told : RunsTellTheirBytes
runs-told p me life limits g t r =
    all-each IsSound IsTold g (λ f s. s.0)
    (tells-chain (Group p.mode) (tells-group p.mode) (new_node me life limits) r.steps)
