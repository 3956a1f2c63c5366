-- Credit holds at every moment of a run, and no packet is posted without one.
use Rattle.std.proofs.Common.{◌≡◌, ℕ, suc, ◌<◌, true, false, eqb, leb, Some}
use Rattle.std.proofs.Common.{List, [], ◌∷◌, length, refl, ap, ◌∙◌, arith}
use Rattle.std.specs.Prelude.{sum_by, map}
use Rattle.std.specs.List.{AllByRecursion, find}
use Rattle.std.proofs.lemmas.Bool.{eq-eqb, ne_eqb}
use Rattle.std.proofs.lemmas.List.Sums.{sum_by-cons}
use Rattle.rpc_base.specs.declared.event.Event.{Event}
use Rattle.rpc_base.specs.declared.event.Event.TheVariants.{Posted}
use Rattle.rpc_base.specs.declared.fact.Fact.{Fact}
use Rattle.rpc_base.specs.declared.limits.Limits.{Limits}
use Rattle.rpc_base.specs.declared.owner.Owner.TheVariants.{Ask, Reply, Control}
use Rattle.rpc_base.specs.declared.state.SessionState.{SessionState}
use Rattle.rpc_base.specs.declared.state.SessionState.TheVariants.{Unknown, Connecting, Connected}
use Rattle.rpc_base.specs.declared.state.SessionState.TheVariants.{Closing, Closed, Failed, Broken}
use Rattle.rpc_base.specs.declared.state.SessionState.TheVariants.{Spent}
use Rattle.rpc_base.proofs.BasicLemmas.{at-most-one}
use Rattle.rpc_laws.specs.declared.tables.Call.{Call}
use Rattle.rpc_laws.specs.declared.tables.Client.{Client}
use Rattle.rpc_laws.specs.declared.tables.Lists.{Lists}
use Rattle.rpc_laws.specs.NodeLists.{after, new_lists}
use Rattle.rpc_laws.specs.Sessions.{is_client, is_connected, is_live}
use Rattle.node_laws.specs.CreditBalance.{CallAccount, Accounts, accounts_after, sessions_after}
use Rattle.node_laws.specs.CreditBalance.{no_accounts, is_session, unanswered, IsBalanced, Balanced}
use Rattle.node_laws.specs.CreditBalance.{CanSpend, MaySpend, CreditFrom}
use Rattle.node_laws.specs.Laws.{CreditBalances}
use Rattle.node_laws.proofs.AccountLemmas.{account_of, has_credits, session_account, of_session, Agrees, list-is}
use Rattle.node_laws.proofs.AgreeLemmas.{calls-agree, sessions-agree, once-agrees}
use Rattle.node_laws.proofs.Allowed.{Allowed, MayPost, Leads}
use Rattle.node_laws.proofs.FilterLemmas.{sum-filter, image-found}
use Rattle.node_laws.proofs.RunLaws.{run_leads}
use Rattle.node_laws.proofs.SpanLemmas.{packets-length}
use Rattle.node_laws.specs.Valid.{NumberedFrom, client_no, unanswered_of, unanswered_on, Sound, Valid}
use Rattle.node_laws.proofs.ValidLemmas.{valid_after, valid_new}

pub agrees-after : (clock : ℕ) (f : Fact) (a : Accounts) (s : Lists) → Valid s → Agrees a s
    → Allowed s f.event → Agrees (accounts_after f.event a) (after clock s f)
agrees-after clock f a s v k may = record {
  sessions = ap (λ xs. sessions_after f.event a.calls xs) k.sessions
      ∙ sessions-agree clock f.event f.first a s v k may;
  calls = calls-agree clock f.event f.first a s v k may;
  once = λ number. once-agrees number f.event a.calls s (k.once number) may;
}

pub agrees-new : (me life : ℕ) (limits : Limits) → Agrees no_accounts (new_lists me life limits)
agrees-new me life limits = record {
  sessions = refl;
  calls = λ n. refl;
  once = λ number. at-most-one (leb 0 number);
}

-- each session is found by its number
abbrev pub Found : List Client → Client → Type 0
Found xs y = find (is_client y.way.number) xs ≡ Some y

later-found : (n m : ℕ) (x : Client) (ys zs : List Client) → x.way.number ≡ n → n < m
    → NumberedFrom client_no m ys → AllByRecursion (Found zs) ys
    → AllByRecursion (Found (x ∷ zs)) ys
later-found n m x [] zs e h numbered all = tt
later-found n m x (y ∷ ys) zs e h numbered all =
    let own = numbered.0 in
    let other : eqb x.way.number y.way.number ≡ false = ne_eqb x.way.number y.way.number (λ i. omega arith) in
    (rw other all.0, later-found n (suc m) x ys zs e (omega arith) numbered.1 all.1)

pub all-found : (n : ℕ) (xs : List Client) → NumberedFrom client_no n xs → AllByRecursion (Found xs) xs
all-found n [] h = tt
all-found n (x ∷ xs) h =
    let own : eqb x.way.number x.way.number ≡ true = eq-eqb x.way.number x.way.number refl in
    (rw own refl, later-found n (suc n) x xs xs h.0 (omega arith) h.1 (all-found (suc n) xs h.1))

-- what is unanswered by the facts is what is by the table
same-unanswered : (n : ℕ) (cs : List Call)
    → sum_by (λ a. length a.packets) (map (account_of n) cs)
    ≡ sum_by (λ c. unanswered_of c.progress) cs
same-unanswered n [] = refl
same-unanswered n (c ∷ cs) =
    omega (
      arith,
      same-unanswered n cs,
      packets-length c.progress,
      sum_by-cons (λ (a : CallAccount). length a.packets) (account_of n c)
          (map (account_of n) cs),
      sum_by-cons (λ (d : Call). unanswered_of d.progress) c cs,
    )

unanswered-is : (a : Accounts) (s : Lists) → Agrees a s → (y : Client) → Found s.clients y
    → unanswered y.way.number a.calls ≡ unanswered_on y
unanswered-is a s k y e =
    let n = y.way.number in
    sum-filter (of_session n) (λ b. length b.packets) a.calls
    ∙ (ap (λ bs. sum_by (λ (b : CallAccount). length b.packets) bs) (list-is a s k n y e)
    ∙ same-unanswered n y.calls)

pub credits-live : (state : SessionState) → has_credits state ≡ true → is_live state ≡ true
credits-live Connected e = refl
credits-live Spent e = refl
credits-live Closing e = refl
credits-live Unknown e = cc
credits-live Connecting e = cc
credits-live Closed e = cc
credits-live Failed e = cc
credits-live Broken e = cc

balanced-by : (a : Accounts) (s : Lists) → Agrees a s → (ys : List Client)
    → AllByRecursion (Found s.clients) ys → AllByRecursion Sound ys
    → AllByRecursion (IsBalanced a.calls) (map session_account ys)
balanced-by a s k [] found sound = tt
balanced-by a s k (y ∷ ys) found sound =
    (balances (sound.0), balanced-by a s k ys found.1 sound.1)
  where
    balances : Sound y → IsBalanced a.calls (session_account y)
    balances h live = let was = h.balance (credits-live y.state live) in let same = unanswered-is a s k y found.0 in omega arith

balanced : (a : Accounts) (s : Lists) → Agrees a s → Valid s → Balanced a
balanced a s k v = rw k.sessions (balanced-by a s k s.clients (all-found 0 s.clients v.numbered) v.sound)

connected-credits : (state : SessionState) → is_connected state ≡ true → has_credits state ≡ true
connected-credits Connected e = refl
connected-credits Spent e = refl
connected-credits Closing e = refl
connected-credits Unknown e = cc
connected-credits Connecting e = cc
connected-credits Closed e = cc
connected-credits Failed e = cc
connected-credits Broken e = cc

-- a packet is posted of a session that has a credit
posted-spend : (n r k : ℕ) (a : Accounts) (s : Lists) → Agrees a s → MayPost s n r k
    → CanSpend (find (is_session n) a.sessions)
posted-spend n r k a s agrees may =
    let found = image-found session_account (is_client n) (is_session n)
    (λ x. refl) s.clients may.client may.active.place.client in
    let credit = may.credit in
    rw (agrees.sessions, found) (record {
      live = connected-credits may.client.state may.connected;
      free = omega arith;
    })

may-spend : (e : Event) (a : Accounts) (s : Lists) → Agrees a s → Allowed s e → MaySpend e a.sessions
may-spend (Posted (Ask n r) k) a s agrees may = posted-spend n r k a s agrees may
may-spend (Posted (Reply n r) k) a s agrees may = tt
may-spend (Posted Control k) a s agrees may = tt
may-spend _ a s agrees may = tt

credit-from : (a : Accounts) (s : Lists) (g : List Fact) (t : Lists) → Agrees a s → Valid s
    → Leads s g t → CreditFrom a g
credit-from a s [] t k v l = balanced a s k v
credit-from a s (f ∷ g) t k v l = (
  balanced a s k v,
  may-spend f.event a s k l.1,
  credit-from (accounts_after f.event a) (after l.0 s f) g t (agrees-after l.0 f a s v k l.1)
      (valid_after l.0 s f v l.1) l.2,
)

pub credit : CreditBalances
credit p me life limits g t r =
    credit-from no_accounts (new_lists me life limits) g t.lists (agrees-new me life limits)
    (valid_new me life limits) (run_leads r)
