-- What always holds of a node's lists holds of all nodes at each moment.
use Rattle.rpc_base.specs.declared.limits.Limits.{Limits}
use Rattle.std.proofs.Common.{◌≡◌, ℕ, Option, Some, length, slice_get, refl, sym, ap, ◌∙◌, subst}
use Rattle.rpc_base.specs.declared.fact.Fact.{Fact}
use Rattle.rpc_base.specs.declared.fact.Who.{Who}
use Rattle.rpc_base.specs.declared.fact.Who.TheVariants.{Net}
use Rattle.rpc_base.proofs.PlaceLemmas.{set-other}
use Rattle.rpc_laws.specs.declared.tables.Lists.{Lists}
use Rattle.rpc_laws.specs.BufferSafety.{changed, nodes_at}
use Rattle.rpc_laws.specs.Facts.{plain}
use Rattle.rpc_laws.specs.Lives.{first_life}
use Rattle.rpc_laws.specs.NodeLists.{after, new_lists}
use Rattle.node_laws.proofs.ValidLemmas.{valid_after, valid_new}
use Rattle.node_laws.specs.Valid.{Valid}
use Rattle.end_laws.specs.Moments.{Moment, moved}
use Rattle.end_laws.proofs.Courses.{made_at, AtNode, Ends, client_fact, server_fact, paired, moved-node}
use Rattle.end_laws.proofs.ListLemmas.{Placed, add-placed, set-placed}
use Rattle.rpc_base.specs.declared.event.Event.TheVariants.{Restarted}
use Rattle.rpc_laws.specs.BufferSafety.{anew}
use Rattle.rpc_laws.specs.NodeLists.{limits_of, restarted_lists}
use Rattle.std.proofs.Common.{◌+◌}

abbrev ValidAt : ℕ → Lists → Type 0
ValidAt n l = Valid l

abbrev pub AllValid : Moment → Type 0
AllValid w = Placed ValidAt w.nodes

pub valid-net : (w : Moment) (f : Fact) → f.who ≡ Net → AllValid w → AllValid (moved w f)
valid-net w f who v = subst (λ (p : Who). Placed ValidAt (nodes_at w.clock p w.nodes f)) (sym who) v

pub valid-made : (w : Moment) (limits : Limits) → AllValid w
    → AllValid (made_at w limits)
valid-made w limits v =
    add-placed ValidAt w.nodes (new_lists (length w.nodes) first_life limits)
    (valid_new (length w.nodes) first_life limits) v

pub valid-node : (w : Moment) (n : ℕ) (l : Lists) (f : Fact) → AtNode w n l f → AllValid w
    → AllValid (moved w f)
valid-node w n l f a v =
    subst AllValid (sym (moved-node w n l f a))
    (set-placed ValidAt w.nodes n l (after w.clock l f) a.is_node
    (valid_after w.clock l f (v n l a.is_node) a.lawful) (λ j z ne is. v j z is))

pub valid-restart : (w : Moment) (n : ℕ) (l : Lists) → slice_get w.nodes n ≡ Some l → AllValid w
    → AllValid (moved w (plain n (Restarted (l.life + 1))))
valid-restart w n l is v =
    subst (λ (o : Option Lists). Placed ValidAt (anew o n w.nodes)) (sym is)
    (set-placed ValidAt w.nodes n l (restarted_lists l) is
    (valid_new l.me (l.life + 1) (limits_of l)) (λ j z ne at. v j z at))

module _ (w : Moment) (n m credits : ℕ) (client server : Lists)
    (ends : Ends w n m credits client server) (v : AllValid w) where
  abbrev one : Fact
  one = client_fact n m credits client server

  abbrev other : Fact
  other = server_fact n m credits client server

  pub valid-one : AllValid (moved w one)
  valid-one =
      subst (λ (o : Option Lists). Placed ValidAt (changed w.clock o n w.nodes one))
      (sym ends.is_client)
      (set-placed ValidAt w.nodes n client (after w.clock client one) ends.is_client
      (valid_after w.clock client one (v n client ends.is_client)
      (record { numbered = refl; room = ends.fits_client })) (λ j z ne is. v j z is))

  is-server : slice_get (moved w one).nodes m ≡ Some server
  is-server =
      ap (λ (o : Option Lists). slice_get (changed w.clock o n w.nodes one) m) ends.is_client
      ∙ (set-other w.nodes n m (after w.clock client one) (λ k. ends.two (sym k)) ∙ ends.is_server)

  pub valid-pair : AllValid (paired w n m credits client server)
  valid-pair =
      subst (λ (o : Option Lists). Placed ValidAt (changed w.clock o m (moved w one).nodes other))
      (sym is-server)
      (set-placed ValidAt (moved w one).nodes m server (after w.clock server other) is-server
      (valid_after w.clock server other (v m server ends.is_server)
      (record { numbered = refl; room = ends.fits_server })) (λ j z ne is. valid-one j z is))
