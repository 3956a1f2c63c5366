-- A session's own requests note only what is allowed.
use Rattle.std.proofs.Common.{◌≡◌, inl, ℕ, List, length, Option, Some, None, slice_get, refl, map}
use Rattle.rpc_base.specs.declared.fact.Fact.{Fact}
use Rattle.rpc_base.specs.declared.state.SessionState.{SessionState}
use Rattle.rpc_base.specs.declared.state.SessionState.TheVariants.{Connecting, Closing}
use Rattle.packet_header.specs.declared.packet.ControlHeader.{ControlHeader}
use Rattle.rpc_laws.specs.declared.rows.RetryRow.{RetryRow}
use Rattle.rpc_laws.specs.declared.rows.RetryRow.TheVariants.{Rests, Asks, GivesUp}
use Rattle.rpc_laws.specs.declared.tables.Client.{Client}
use Rattle.rpc_laws.specs.declared.tables.InFlight.{InFlight}
use Rattle.rpc_laws.specs.declared.tables.Lists.{Lists}
use Rattle.rpc_laws.specs.ControlSteps.{given_up, retry_row, own_request, RetriesBy}
use Rattle.rpc_laws.specs.ControlSteps.{RetriesAs, RetriesOf, Retries, TimesSession, TimesAll}
use Rattle.rpc_laws.specs.Facts.{plain}
use Rattle.rpc_laws.specs.GoBackN.{WatchesSession}
use Rattle.end_laws.proofs.Allowed.{Walks}
use Rattle.end_laws.proofs.CallSteps.{watches-session}
use Rattle.end_laws.proofs.HearsSteps.{speaks-walk}
use Rattle.end_laws.proofs.Walks.{Stays, Fine, walked-goes, fine-then, fine-visits}

gives-walk : (hand : Option InFlight) (clock : ℕ) (l : Lists) (state : SessionState) (number : ℕ)
    → Walks hand clock l (map (plain l.me) (given_up state number))
gives-walk hand clock l Connecting number = (record { who = refl; may = tt }, tt, tt)
gives-walk hand clock l Closing number = (record { who = refl; may = tt }, tt, tt)
gives-walk hand clock l _ number = tt

retries-by : (row : RetryRow) (hand : Option InFlight) (clock : ℕ) (l : Lists) (place : ℕ)
    (x : Client)
    (h : ControlHeader) (facts : List Fact) → slice_get l.clients place ≡ Some x
    → own_request l.life x ≡ Some h → RetriesBy row l.me x h facts → Walks hand clock l facts
retries-by Rests hand clock l place x h facts is own r = rw r tt
retries-by Asks hand clock l place x h facts is own r =
    speaks-walk hand None clock l x.way.peer h facts
    (inl (record { place = place; client = x; is_there = is; to_peer = refl; own = own })) r
retries-by GivesUp hand clock l place x h facts is own r =
    rw r (gives-walk hand clock l x.state x.way.number)

retries-as : (own : Option ControlHeader) (hand : Option InFlight) (clock timeout : ℕ) (l : Lists)
    (place : ℕ) (x : Client) (facts : List Fact) → slice_get l.clients place ≡ Some x
    → own_request l.life x ≡ own → RetriesAs own clock timeout l.me x facts
    → Walks hand clock l facts
retries-as None hand clock timeout l place x facts is own r = rw r tt
retries-as (Some h) hand clock timeout l place x facts is own r =
    retries-by (retry_row clock timeout x.sends x.sent_at) hand clock l place x h facts is own r

retries-of : (o : Option Client) (hand : Option InFlight) (clock timeout : ℕ) (l : Lists)
    (place : ℕ)
    (facts : List Fact) → slice_get l.clients place ≡ o
    → RetriesOf clock timeout l.me l.life o facts
    → Walks hand clock l facts
retries-of None hand clock timeout l place facts is r = rw r tt
retries-of (Some x) hand clock timeout l place facts is r =
    retries-as (own_request l.life x) hand clock timeout l place x facts is refl r

module _ (Inv : Lists → Type 0) (stays : Stays Inv) where
  pub retries-fine : (timeout place : ℕ) → Fine Inv (Retries timeout place)
  retries-fine timeout place hand s x t i h =
      walked-goes Inv stays hand s x t i (retries-of (slice_get s.lists.clients place) hand s.clock
      timeout s.lists place x refl h.facts) h.goes

  pub times-session : (timeout place : ℕ) → Fine Inv (TimesSession timeout place)
  times-session timeout place =
      fine-then Inv (Retries timeout place) (WatchesSession timeout place)
      (retries-fine timeout place) (watches-session Inv stays timeout place)

  pub times-all : Fine Inv TimesAll
  times-all hand s x t i h =
      fine-visits Inv (TimesSession s.lists.timeout) (times-session s.lists.timeout)
      (length s.lists.clients) hand s x t i h
