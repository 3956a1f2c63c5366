-- A client session that let go of a server session stays so by each fact of its node.
use Rattle.std.proofs.Common.{◌+◌}
use Rattle.std.proofs.Common.{◌≡◌, ◌==◌, ◌⊎◌, inl, inr, ℕ, zero, suc, Bool, true, false, cond, List}
use Rattle.std.proofs.Common.{[], ◌∷◌}
use Rattle.std.proofs.Common.{◌++◌, Option, Some, None, slice_get, refl, sym, ap, ◌∙◌, subst, arith}
use Rattle.std.specs.List.{find}
use Rattle.std.proofs.lemmas.Bool.{eqb-true}
use Rattle.packet_header.specs.declared.packet.ControlHeader.{ControlHeader}
use Rattle.packet_header.specs.declared.packet.ControlKind.TheVariants.{ConnectRequest}
use Rattle.packet_header.specs.declared.packet.ControlKind.TheVariants.{DisconnectRequest}
use Rattle.packet_header.specs.declared.packet.MessageHeader.{MessageHeader}
use Rattle.rpc_base.specs.Tables.{at_first}
use Rattle.rpc_base.specs.declared.event.Event.{Event}
use Rattle.rpc_base.specs.declared.event.Event.TheVariants.{Opened, Connected as IsConnected}
use Rattle.rpc_base.specs.declared.event.Event.TheVariants.{FailedNoRoom}
use Rattle.rpc_base.specs.declared.event.Event.TheVariants.{FailedNoAnswer}
use Rattle.rpc_base.specs.declared.event.Event.TheVariants.{Closing as BeginsClosing, ClosedHeard}
use Rattle.rpc_base.specs.declared.event.Event.TheVariants.{ClosedUnheard, PairedClient, Asked}
use Rattle.rpc_base.specs.declared.event.Event.TheVariants.{Begun}
use Rattle.rpc_base.specs.declared.event.Event.TheVariants.{Posted, Sent, Took, Rolled, Broken}
use Rattle.rpc_base.specs.declared.event.Event.TheVariants.{DoneOk, DoneTooSmall, DonePeerLost}
use Rattle.rpc_base.specs.declared.owner.Owner.TheVariants.{Ask, Reply, Control}
use Rattle.rpc_base.specs.declared.state.SessionState.{SessionState}
use Rattle.rpc_base.specs.declared.state.SessionState.TheVariants.{Unknown, Connecting, Connected}
use Rattle.rpc_base.specs.declared.state.SessionState.TheVariants.{Spent}
use Rattle.rpc_base.specs.declared.state.SessionState.TheVariants.{Closing, Closed, Failed}
use Rattle.rpc_base.specs.declared.state.SessionState.TheVariants.{Broken as IsBroken}
use Rattle.rpc_base.proofs.BasicLemmas.{false-true}
use Rattle.rpc_laws.specs.declared.rows.ControlRow.TheVariants.{Ignores, Disowns, Connects}
use Rattle.rpc_laws.specs.declared.tables.Client.{Client}
use Rattle.rpc_laws.specs.declared.tables.Lists.{Lists}
use Rattle.rpc_laws.specs.BufferSafety.{OwnControl}
use Rattle.rpc_laws.specs.ControlSteps.{request_by}
use Rattle.rpc_laws.specs.ControlTable.{joined_row, reply_row}
use Rattle.rpc_laws.specs.Front.{control_of}
use Rattle.rpc_laws.specs.Sessions.{clients_after, clients_told, comes_to, is_client, is_connected}
use Rattle.rpc_laws.specs.Sessions.{is_request_of, requests}
use Rattle.node_laws.proofs.Allowed.{Allowed as Lawful, IsIn}
use Rattle.end_laws.proofs.Known.{is_joined}
use Rattle.rpc_laws.specs.declared.tables.Way.{Way}
use Rattle.rpc_laws.specs.Sessions.{breaks, is_with}
use Rattle.node_laws.proofs.NumberLemmas.{numbered-at, numbered-found}
use Rattle.node_laws.specs.Valid.{Valid, client_no}
use Rattle.node_laws.proofs.ControlLemmas.{unless-disowns}
use Rattle.end_laws.specs.Handshakes.{IsLetGo}
use Rattle.end_laws.proofs.Allowed.{AsksAt}
use Rattle.end_laws.proofs.ListLemmas.{add-keeps, find-at}

-- what a session let go of is still let go, and one that is joined stays so, with its way
pub record Kin (x y : Client) : Type 0 where
  pub let_go : (t life : ℕ) → IsLetGo x t life → IsLetGo y t life
  pub joined : is_joined x.state ≡ true → (is_joined y.state ≡ true) × (y.way ≡ x.way)

same-kin : (x : Client) → Kin x x
same-kin x = record { let_go = λ t life h. h; joined = λ j. (j, refl) }

-- a change that leaves state and way
plain-kin : (x y : Client) → y.state ≡ x.state → y.way ≡ x.way → Kin x y
plain-kin x y state way = record {
  let_go = λ t life h. record {
    opens = λ e. h.opens (sym state ∙ e);
    apart = λ c o. h.apart (ap is_connected (sym state) ∙ c)
        (sym (ap (is_with t life) way) ∙ o);
  };
  joined = λ j. (ap is_joined state ∙ j, way);
}

pub record KinAt (x : Client) (o : Option Client) : Type 0 where
  pub now : Client
  pub is : o ≡ Some now
  pub kin : Kin x now

-- so each session of a list
abbrev pub KinAll : List Client → List Client → Type 0
KinAll xs ys = (i : ℕ) (x : Client) → slice_get xs i ≡ Some x → KinAt x (slice_get ys i)

pub kin-same : (xs : List Client) → KinAll xs xs
kin-same xs i x is = record { now = x; is = is; kin = same-kin x }

pub kin-added : (xs : List Client) (y : Client) → KinAll xs (xs ++ y ∷ [])
kin-added xs y i x is = record { now = x; is = add-keeps xs y i x is; kin = same-kin x }

-- the first that passes changes
module _ (p : Client → Bool) (f : Client → Client) where
  first-cons : (z : Client) (zs : List Client) (b : Bool) → p z ≡ b → (i : ℕ) (x : Client)
      → slice_get (z ∷ zs) i ≡ Some x
      → ((j : ℕ) → slice_get zs j ≡ Some x → (p x ≡ true → Kin x (f x))
      → KinAt x (slice_get (at_first p f zs) j))
      → (p x ≡ true → Kin x (f x))
      → KinAt x (slice_get (cond b (f z ∷ zs) (z ∷ at_first p f zs)) i)
  first-cons z zs true t zero x is ih change =
      let same : z ≡ x = some-same z x is in
      record {
        now = f x;
        is = ap (λ (y : Client). Some (f y)) same;
        kin = change (ap p (sym same) ∙ t);
      }
    where
      some-same : (a b : Client) → Some a ≡ Some b → a ≡ b
      some-same a b e = cc
  first-cons z zs true t (suc i) x is ih change = record { now = x; is = is; kin = same-kin x }
  first-cons z zs false t zero x is ih change = record { now = x; is = is; kin = same-kin x }
  first-cons z zs false t (suc i) x is ih change = ih i is change

  pub kin-first : (xs : List Client) (i : ℕ) (x : Client) → slice_get xs i ≡ Some x
      → (p x ≡ true → Kin x (f x)) → KinAt x (slice_get (at_first p f xs) i)
  kin-first [] i x is change = cc
  kin-first (z ∷ zs) i x is change =
      first-cons z zs (p z) refl i x is (λ j at c. kin-first zs j x at c) change

  kin-each : (xs : List Client) → ((x : Client) → Kin x (f x)) → KinAll xs (at_first p f xs)
  kin-each xs change i x is = kin-first xs i x is (λ t. change x)

closing-no : Closing ≡ Connecting → ⊥
closing-no e = cc

failed-no : Failed ≡ Connecting → ⊥
failed-no e = cc

closed-no : Closed ≡ Connecting → ⊥
closed-no e = cc

broken-no : IsBroken ≡ Connecting → ⊥
broken-no e = cc

-- a session that isn't connected, nor may be, has let go of all
comes-kin : (state : SessionState) → (state ≡ Connecting → ⊥) → is_connected state ≡ false
    → is_joined state ≡ true → (x : Client) → Kin x (comes_to state x)
comes-kin state opens apart joined x =
    record {
      let_go = λ t life h. record { opens = opens; apart = λ e. false-true (sym apart ∙ e) };
      joined = λ j. (joined, refl);
    }

-- one that is Connecting isn't joined
fails-kin : (x : Client) → x.state ≡ Connecting → Kin x (comes_to Failed x)
fails-kin x e =
    record {
      let_go = λ t life h. record { opens = failed-no; apart = λ c. cc };
      joined = λ j. false-true (sym (ap is_joined e) ∙ j);
    }

requests-kin : (clock : ℕ) (b : Bool) (x : Client)
    → Kin x (cond b (record x { sends = x.sends + 1; sent_at = clock }) x)
requests-kin clock true x = plain-kin x
    (record x { sends = x.sends + 1; sent_at = clock }) refl refl
requests-kin clock false x = same-kin x

told-kin : (clock : ℕ) (o : Option ControlHeader) (xs : List Client)
    → KinAll xs (clients_told clock o xs)
told-kin clock None xs = kin-same xs
told-kin clock (Some h) xs =
    kin-each (is_client h.client) (requests clock h) xs
    (λ x. requests-kin clock (is_request_of h.kind h.server h.to_life x.state x.way) x)

-- the session of a number that is found is the one at its place
pub at-number : (l : Lists) (v : Valid l) (s i : ℕ) (c x : Client) → find (is_client s) l.clients
    ≡ Some c
    → slice_get l.clients i ≡ Some x → is_client s x ≡ true → c ≡ x
at-number l v s i c x found is t =
    let number : x.way.number ≡ s = eqb-true x.way.number s t in
    let own = numbered-found client_no 0 i l.clients x v.numbered is in
    let here : find (is_client s) l.clients ≡ Some x =
    ap (λ (n : ℕ). find (is_client n) l.clients) (sym number) ∙ own in
    cc

fails-all : (l : Lists) (s : ℕ) → Valid l → IsIn l Connecting s
    → KinAll l.clients (at_first (is_client s) (comes_to Failed) l.clients)
fails-all l s v a = λ i x is.
    kin-first (is_client s) (comes_to Failed) l.clients i x is (λ p. fails-kin x
    (ap (λ (y : Client). y.state) (sym (at-number l v s i a.client x a.found is p)) ∙ a.stands))

pub clients-kin : (clock : ℕ) (l : Lists) (e : Event) (first : List ℕ) (head : Option MessageHeader)
    (body : List ℕ) → Valid l → Lawful l e
    → KinAll l.clients (clients_after clock e first head body l.clients)
clients-kin clock l (PairedClient s peer t credits life) first head body v a = kin-added l.clients _
clients-kin clock l (Opened s peer credits) first head body v a = kin-added l.clients _
clients-kin clock l (IsConnected s t life) first head body v a = λ i x is.
    kin-first (is_client s) _ l.clients i x is (λ p.
    let state : x.state ≡ Connecting =
    ap (λ (y : Client). y.state) (sym (at-number l v s i a.client x a.found is p)) ∙ a.stands in
    record {
      let_go = λ u life h. absurd (h.opens state);
      joined = λ j. false-true (sym (ap is_joined state) ∙ j);
    })
clients-kin clock l (FailedNoRoom s) first head body v a = fails-all l s v a
clients-kin clock l (FailedNoAnswer s) first head body v a = fails-all l s v a
clients-kin clock l (BeginsClosing s) first head body v a =
    kin-each (is_client s) (comes_to Closing) l.clients (comes-kin Closing closing-no refl refl)
clients-kin clock l (ClosedHeard s) first head body v a =
    kin-each (is_client s) (comes_to Closed) l.clients (comes-kin Closed closed-no refl refl)
clients-kin clock l (ClosedUnheard s) first head body v a =
    kin-each (is_client s) (comes_to Closed) l.clients (comes-kin Closed closed-no refl refl)
clients-kin clock l (Sent peer Control k) first head body v a =
    told-kin clock (control_of first) l.clients
clients-kin clock l (Asked c s y room) first head body v a =
    kin-each (is_client s) _ l.clients (λ x. plain-kin x _ refl refl)
clients-kin clock l (Begun c r) first head body v a =
    kin-each _ _ l.clients (λ x. plain-kin x _ refl refl)
clients-kin clock l (Posted (Ask s r) k) first head body v a =
    kin-each _ _ l.clients (λ x. plain-kin x _ refl refl)
clients-kin clock l (Posted (Reply s r) k) first head body v a = kin-same l.clients
clients-kin clock l (Posted Control k) first head body v a = kin-same l.clients
clients-kin clock l (Sent peer (Ask s r) k) first head body v a =
    kin-each _ _ l.clients (λ x. plain-kin x _ refl refl)
clients-kin clock l (Sent peer (Reply s r) k) first head body v a = kin-same l.clients
clients-kin clock l (Took (Ask s r) k) first head body v a =
    kin-each _ _ l.clients (λ x. plain-kin x _ refl refl)
clients-kin clock l (Took (Reply s r) k) first head body v a = kin-same l.clients
clients-kin clock l (Took Control k) first head body v a = kin-same l.clients
clients-kin clock l (Rolled c posted got) first head body v a =
    kin-each _ _ l.clients (λ x. plain-kin x _ refl refl)
clients-kin clock l (Broken s) first head body v a =
    kin-each (is_client s) breaks l.clients (λ x. record
    { let_go = λ t life h. record { opens = broken-no; apart = λ e. cc }; joined = λ j. (refl, refl) })
clients-kin clock l (DoneOk c) first head body v a =
    kin-each _ _ l.clients (λ x. plain-kin x _ refl refl)
clients-kin clock l (DoneTooSmall c size) first head body v a =
    kin-each _ _ l.clients (λ x. plain-kin x _ refl refl)
clients-kin clock l (DonePeerLost c) first head body v a =
    kin-each _ _ l.clients (λ x. plain-kin x _ refl refl)
clients-kin clock l _ first head body v a = kin-same l.clients

-- the session with that number let go
pub record GoneFrom (xs : List Client) (s t life : ℕ) : Type 0 where
  pub client : Client
  pub is_there : slice_get xs s ≡ Some client
  pub let_go : IsLetGo client t life

pub gone-kin : (xs ys : List Client) (s t life : ℕ) → KinAll xs ys → GoneFrom xs s t life
    → GoneFrom ys s t life
gone-kin xs ys s t life kin g =
    let k = kin s g.client g.is_there in
    record { client = k.now; is_there = k.is; let_go = k.kin.let_go t life g.let_go }

-- a session with a request of its own to disconnect is Closing
asks-gone : (own : ℕ) (state : SessionState) (way : Way) (credits : ℕ) (h : ControlHeader)
    → request_by own state way credits ≡ Some h → h.kind ≡ DisconnectRequest
    → (h.client ≡ way.number) × (state ≡ Closing)
asks-gone own Connecting way credits h e kind =
    let same : record {
      kind = ConnectRequest;
      client = way.number;
      server = None;
      credits = credits;
      status = 0;
      from_life = own;
      to_life = None;
    }
    ≡ h = some-same _ h e in
    absurd (request-no (ap (λ (c : ControlHeader). c.kind) same ∙ kind))
  where
    some-same : (a b : ControlHeader) → Some a ≡ Some b → a ≡ b
    some-same a b e = cc

    request-no : ConnectRequest ≡ DisconnectRequest → ⊥
    request-no e = cc
asks-gone own Closing way credits h e kind =
    let same : record {
      kind = DisconnectRequest;
      client = way.number;
      server = Some way.other;
      credits = 0;
      status = 0;
      from_life = own;
      to_life = Some way.life;
    }
    ≡ h = some-same _ h e in (ap (λ (c : ControlHeader). c.client) (sym same), refl)
  where
    some-same : (a b : ControlHeader) → Some a ≡ Some b → a ≡ b
    some-same a b e = cc
asks-gone own _ way credits h e kind = cc

closing-gone : (x : Client) (t life : ℕ) → x.state ≡ Closing → IsLetGo x t life
closing-gone x t life e = record {
  opens = λ o. closing-no (sym e ∙ o);
  apart = λ c. false-true (ap is_connected (sym e) ∙ c);
}

-- a session that disowns a server session isn't connected with it
apart-by : (its : Bool) → its ≡ false → its ≡ true → ⊥
apart-by its e same = false-true (sym e ∙ same)

disown-state : (state : SessionState) (its : Bool) (limit t : ℕ) → joined_row state its limit t 0
    ≡ Disowns
    → (state ≡ Connecting → ⊥) × (is_connected state ≡ true → its ≡ true → ⊥)
disown-state Connecting its limit t e = connecting-no (0 == limit) t e
  where
    connecting-no : {A : Type 0} (b : Bool) (t : ℕ) → cond b (Connects t) Ignores ≡ Disowns → A
    connecting-no true t e = cc
    connecting-no false t e = cc
disown-state Connected its limit t e = (λ o. cc, λ c. apart-by its (unless-disowns its e))
disown-state Spent its limit t e = (λ o. cc, λ c. apart-by its (unless-disowns its e))
disown-state Closing its limit t e = (λ o. cc, λ c. false-true c)
disown-state Unknown its limit t e = (λ o. cc, λ c. false-true c)
disown-state Closed its limit t e = (λ o. cc, λ c. false-true c)
disown-state Failed its limit t e = (λ o. cc, λ c. false-true c)
disown-state IsBroken its limit t e = (λ o. cc, λ c. false-true c)

disown-gone : (o : Option ℕ) (x : Client) (t life : ℕ) → o ≡ Some t → reply_row o life 0 x ≡ Disowns
    → IsLetGo x t life
disown-gone None x t life e row = cc
disown-gone (Some u) x t life e row =
    let same : u ≡ t = cc in
    let d = disown-state x.state (is_with u life x.way) x.limit u row in
    subst (λ (n : ℕ). IsLetGo x n life) same (record { opens = d.0; apart = d.1 })

kind-no : {A : Type 0} (h c : ControlHeader) → h ≡ c → h.kind ≡ DisconnectRequest
    → (c.kind ≡ DisconnectRequest → A) → A
kind-no h c e kind refuse = refuse (ap (λ (z : ControlHeader). z.kind) (sym e) ∙ kind)

found-gone : (l : Lists) (v : Valid l) (s t life : ℕ) (x : Client) → find (is_client s) l.clients
    ≡ Some x
    → IsLetGo x t life → GoneFrom l.clients s t life
found-gone l v s t life x found gone =
    let at = find-at (is_client s) l.clients x found in
    let number : x.way.number ≡ s = eqb-true x.way.number s at.2 in
    let place : x.way.number ≡ 0 + at.0 =
    numbered-at client_no 0 at.0 l.clients x v.numbered at.1 in
    let same : at.0 ≡ s = omega arith in
    record { client = x; is_there = ap (slice_get l.clients) (sym same) ∙ at.1; let_go = gone }

-- so it is where a request to disconnect is sent
pub sent-gone : (l : Lists) (v : Valid l) (peer t life : ℕ) (h : ControlHeader)
    → AsksAt l peer h ⊎ OwnControl l peer h → h.kind ≡ DisconnectRequest → h.server ≡ Some t
    → h.to_life ≡ Some life → GoneFrom l.clients h.client t life
sent-gone l v peer t life h (inl a) kind names goes =
    let x = a.client in
    let own = asks-gone l.life x.state x.way x.limit h a.own kind in
    let found = numbered-found client_no 0 a.place l.clients x v.numbered a.is_there in
    found-gone l v h.client t life x (ap (λ (n : ℕ). find (is_client n) l.clients) own.0 ∙ found)
    (closing-gone x t life own.1)
sent-gone l v peer t life h (inr (OwnControl.asks x opened own)) kind names goes =
    let mine = asks-gone l.life x.state x.way x.limit h own kind in
    found-gone l v h.client t life x opened.found (closing-gone x t life mine.1)
sent-gone l v peer t life h (inr (OwnControl.confirms to u w e found ends)) kind names goes =
    kind-no h _ e kind (λ k. cc)
sent-gone l v peer t life h (inr (OwnControl.declines to e none)) kind names goes =
    kind-no h _ e kind (λ k. cc)
sent-gone l v peer t life h (inr (OwnControl.disowns to x opened e row)) kind names goes =
    let told : Some to ≡ Some life = sym (ap (λ (c : ControlHeader). c.to_life) e) ∙ goes in
    let same : to ≡ life = cc in
    found-gone l v h.client t life x opened.found
    (disown-gone h.server x t life names (subst (λ (w : ℕ). reply_row h.server w 0 x ≡ Disowns) same row))
sent-gone l v peer t life h (inr (OwnControl.ends to e none)) kind names goes =
    kind-no h _ e kind (λ k. cc)
sent-gone l v peer t life h (inr (OwnControl.misses to e none)) kind names goes =
    kind-no h _ e kind (λ k. cc)
