-- Of the fronts of some facts at most one is what a poll does in its timers, and in its posting.
use Rattle.std.proofs.Common.{◌≡◌, ℕ, List, [], ◌∷◌, ◌++◌, Option, Some, None, sym, ap, ◌∙◌, subst}
use Rattle.std.proofs.Common.{length, slice_get}
use Rattle.packet_header.specs.declared.packet.ControlHeader.{ControlHeader}
use Rattle.rpc_base.specs.declared.fact.Fact.{Fact}
use Rattle.rpc_laws.specs.declared.rows.RetryRow.{RetryRow}
use Rattle.rpc_laws.specs.declared.rows.RetryRow.TheVariants.{Rests, Asks, GivesUp}
use Rattle.rpc_laws.specs.declared.tables.Client.{Client}
use Rattle.rpc_laws.specs.ControlSteps.{control_fact, own_request, Retries, RetriesAs, RetriesBy, RetriesOf}
use Rattle.rpc_laws.specs.ControlSteps.{retry_row, Speaks, SpeaksIf, TimesAll, TimesSession}
use Rattle.rpc_laws.specs.GoBackN.{numbers_in, Watches, WatchesSession}
use Rattle.rpc_laws.specs.PollOrder.{PostsAll, Serves}
use Rattle.rpc_laws.specs.Posting.{next_begun, next_posted}
use Rattle.front_laws.proofs.OneWayLemmas.{each-one, goes-one, notes-one, OneWay, then-one, visits-one}

-- one fact in front
pub one-front : (a b : Fact) (x y r q : List Fact) → x ≡ a ∷ [] → y ≡ b ∷ [] → x ++ r ≡ y ++ q → x ≡ y
one-front a b x y r q e f h =
    let both : a ∷ r ≡ b ∷ q =
    subst (λ (z : List Fact). z ++ r ≡ b ∷ q) e (subst (λ (z : List Fact). x ++ r ≡ z ++ q) f h) in
    let same : a ≡ b = cc in
    e ∙ (ap (λ (z : Fact). z ∷ []) same ∙ sym f)

pub speaks-one : (me peer : ℕ) (h : ControlHeader) (x y r q : List Fact) → Speaks me peer h x
    → Speaks me peer h y → x ++ r ≡ y ++ q → x ≡ y
speaks-one me peer h x y r q a b e =
    one-front (control_fact a.taken me peer a.head) (control_fact b.taken me peer b.head) x y r q a.facts b.facts e

pub said-one : (me peer : ℕ) (h : Option ControlHeader) (x y r q : List Fact) → SpeaksIf me peer h x
    → SpeaksIf me peer h y → x ++ r ≡ y ++ q → x ≡ y
said-one me peer None x y r q a b e = a ∙ sym b
said-one me peer (Some h) x y r q a b e = speaks-one me peer h x y r q a b e

retries-by : (row : RetryRow) (me : ℕ) (c : Client) (h : ControlHeader) (x y r q : List Fact)
    → RetriesBy row me c h x → RetriesBy row me c h y → x ++ r ≡ y ++ q → x ≡ y
retries-by Rests me c h x y r q a b e = a ∙ sym b
retries-by Asks me c h x y r q a b e = speaks-one me c.way.peer h x y r q a b e
retries-by GivesUp me c h x y r q a b e = a ∙ sym b

retries-as : (h : Option ControlHeader) (clock timeout me : ℕ) (c : Client) (x y r q : List Fact)
    → RetriesAs h clock timeout me c x → RetriesAs h clock timeout me c y → x ++ r ≡ y ++ q → x ≡ y
retries-as None clock timeout me c x y r q a b e = a ∙ sym b
retries-as (Some h) clock timeout me c x y r q a b e =
    retries-by (retry_row clock timeout c.sends c.sent_at) me c h x y r q a b e

retries-of : (clock timeout me own : ℕ) (c : Option Client) (x y r q : List Fact)
    → RetriesOf clock timeout me own c x → RetriesOf clock timeout me own c y → x ++ r ≡ y ++ q → x ≡ y
retries-of clock timeout me own None x y r q a b e = a ∙ sym b
retries-of clock timeout me own (Some c) x y r q a b e =
    retries-as (own_request own c) clock timeout me c x y r q a b e

pub retries-one : (timeout i : ℕ) → OneWay (Retries timeout i)
retries-one timeout i s x y r q t u h k e =
    goes-one s x y t u h.goes k.goes
    (retries-of s.clock timeout s.lists.me s.lists.life (slice_get s.lists.clients i) x y r q h.facts k.facts e)

pub watches-one : (timeout i number : ℕ) → OneWay (Watches timeout i number)
watches-one timeout i number s x y r q t u h k e = goes-one s x y t u h.goes k.goes (h.facts ∙ sym k.facts)

pub session-one : (timeout i : ℕ) → OneWay (WatchesSession timeout i)
session-one timeout i s x y r q t u h k e =
    each-one (Watches timeout i) (watches-one timeout i) (numbers_in (slice_get s.lists.clients i)) s x y r q t u h k e

pub times-one : OneWay TimesAll
times-one s x y r q t u h k e =
    visits-one (TimesSession s.lists.timeout)
    (λ i. then-one (Retries s.lists.timeout i) (WatchesSession s.lists.timeout i)
    (retries-one s.lists.timeout i) (session-one s.lists.timeout i))
    (length s.lists.clients) s x y r q t u h k e

pub posts-one : OneWay PostsAll
posts-one s x y r q t u h k e =
    visits-one Serves (λ i. then-one _ _ (notes-one (next_begun i)) (notes-one (next_posted i)))
    (length s.lists.clients) s x y r q t u h k e
