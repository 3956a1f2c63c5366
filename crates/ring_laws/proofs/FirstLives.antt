-- While no node was restarted each endpoint is its node in its first life.
use Rattle.std.proofs.Common.{◌≡◌, ℕ, List, Some, slice_get, refl, ap, subst, Contains, true}
use Rattle.std.specs.List.{All}
use Rattle.std.proofs.lemmas.List.Elements.{All-contains, All-nil}
use Rattle.rpc_base.specs.declared.event.Event.{Event}
use Rattle.rpc_base.specs.declared.fact.Who.TheVariants.{Node}
use Rattle.rpc_laws.specs.declared.tables.Client.{Client}
use Rattle.rpc_laws.specs.declared.tables.Lists.{Lists}
use Rattle.rpc_laws.specs.Endpoints.{Endpoint, life_by, Lived, noted}
use Rattle.rpc_laws.specs.Lives.{first_life}
use Rattle.rpc_laws.specs.OwnAnswer.{IsServerEnd}
use Rattle.end_laws.specs.Moments.{first_moment, Moment}
use Rattle.end_laws.specs.TwoEnds.{here, peer_of}
use Rattle.end_laws.proofs.ClientLemmas.{is-joined}
use Rattle.end_laws.proofs.Known.{Begin, End, Good, GoodNode, is_joined}
use Rattle.end_laws.proofs.ListLemmas.{Placed}

-- a node in its first life
abbrev pub first : ℕ → Endpoint
first n = record { node = n; life = first_life }

pub first-is : (n : Endpoint) → n.life ≡ first_life → n ≡ first n.node
first-is n e = ap (λ (life : ℕ). record { node = n.node; life = life }) e

-- a fact that its node noted in its first life
abbrev pub IsFirst : Lived → Type 0
IsFirst f = (n : ℕ) → f.fact.who ≡ Node n → f.life ≡ first_life

-- each node is in its first life, and so it was at each of the facts so far
pub record FirstLives (w : Moment) : Type 0 where
  pub past : All IsFirst w.past
  pub present : (n : ℕ) → life_by n w.past ≡ first_life
  pub nodes : Placed (λ n l. l.life ≡ first_life) w.nodes

pub first-lives : FirstLives first_moment
first-lives = record { past = All-nil IsFirst; present = λ n. refl; nodes = λ n l is. absurd (cc) }

-- so what is known is of first lives
module _ (w : Moment) (g : Good w) (f : FirstLives w) where
  noted-first : (n : Endpoint) (e : Event) → Contains g.known.past (noted n e)
      → n.life ≡ first_life
  noted-first n e c =
      let there : Contains w.past (noted n e) =
      subst (λ (p : List Lived). Contains p (noted n e)) g.past c in
      All-contains IsFirst w.past (noted n e) f.past there n.node refl

  server-first : (n : Endpoint) (s : ℕ) (m : Endpoint) (t : ℕ) → IsServerEnd g.known.past n s m t
      → m.life ≡ first_life
  server-first n s m t (IsServerEnd.paired credits c) = noted-first m _ c
  server-first n s m t (IsServerEnd.accepted credits c) = noted-first m _ c

  pub end-first : (m : Endpoint) (t : ℕ) (e : End) → g.known.ends m t 0 ≡ Some e
      → m.life ≡ first_life
  end-first m t e is = server-first e.home e.client m t (g.is_true.ends m t 0 e is)

  pub start-first : (n : Endpoint) (s r : ℕ) (b : Begin) → g.known.starts n s r ≡ Some b
      → n.life ≡ first_life
  start-first n s r b is = noted-first n _ (g.is_true.starts n s r b is).begun

  pub way-first : (n : Endpoint) (s r : ℕ) (b : Begin) → g.known.starts n s r ≡ Some b
      → b.way.life ≡ first_life
  way-first n s r b is =
      server-first n s (peer_of b.way) b.way.other (g.is_true.starts n s r b is).ends.server

  pub good-first : (n : ℕ) (l : Lists) → slice_get w.nodes n ≡ Some l
      → GoodNode g.known (first n) l
  good-first n l is =
      let same : here n l ≡ first n =
      ap (λ (life : ℕ). record { node = n; life = life }) (f.nodes n l is) in
      subst (λ (a : Endpoint). GoodNode g.known a l) same (g.nodes n l is)

  -- a session that is joined is so with the first life of its peer
  pub joined-first : (n s : ℕ) (l : Lists) (x : Client) → slice_get w.nodes n ≡ Some l
      → slice_get l.clients s ≡ Some x → is_joined x.state ≡ true → x.way.life ≡ first_life
  joined-first n s l x is there joined =
      let good = (good-first n l is).clients s x there in
      end-first (peer_of x.way) x.way.other _ (is-joined g.known (first n) s x joined good).end
