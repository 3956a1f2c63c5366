-- Each calm fact leaves all nodes in their first lives.
use Rattle.std.proofs.Common.{◌≡◌, ◌&&◌, ℕ, false, List, ◌∷◌, length}
use Rattle.std.proofs.Common.{refl, sym, ap, ◌∙◌, subst}
use Rattle.std.specs.List.{All, slice_set}
use Rattle.std.proofs.lemmas.List.Elements.{All-cons}
use Rattle.rpc_base.proofs.BasicLemmas.{and-false}
use Rattle.rpc_base.specs.declared.event.Event.{Event}
use Rattle.rpc_base.specs.declared.event.Event.TheVariants.{Made, Restarted}
use Rattle.rpc_base.specs.declared.fact.Fact.{Fact}
use Rattle.rpc_base.specs.declared.fact.Who.{Who}
use Rattle.rpc_base.specs.declared.fact.Who.TheVariants.{Net}
use Rattle.rpc_base.specs.declared.limits.Limits.{Limits}
use Rattle.rpc_laws.specs.declared.tables.Lists.{Lists}
use Rattle.rpc_laws.specs.AtMostOnce.{is_at}
use Rattle.rpc_laws.specs.Endpoints.{begins_life, life_at, life_by, Lived, told}
use Rattle.rpc_laws.specs.Facts.{plain}
use Rattle.rpc_laws.specs.Lives.{first_life}
use Rattle.rpc_laws.specs.NodeLists.{after, new_lists}
use Rattle.end_laws.specs.Moments.{Moment, moved}
use Rattle.end_laws.proofs.Courses.{AtNode, client_fact, Ends, is_made, made_at, may-unmade}
use Rattle.end_laws.proofs.Courses.{moved-node, paired, server_fact}
use Rattle.end_laws.proofs.ListLemmas.{add-placed, Placed, set-placed}
use Rattle.ring_laws.proofs.FirstLives.{FirstLives, IsFirst}
use Rattle.ring_laws.proofs.WithinSteps.{is_server1, lists1, lists2, nodes-net, nodes1}
use Rattle.ring_laws.proofs.WithinSteps.{paired-nodes}

-- what the facts so far leave
record Lives (past : List Lived) : Type 0 where
  all : All IsFirst past
  present : (n : ℕ) → life_by n past ≡ first_life

-- one fact more, by which no life begins
lives-more : (past : List Lived) (f : Fact)
    → ((n : ℕ) → (is_at n f.who && begins_life f.event) ≡ false) → Lives past
    → Lives (told past f ∷ past)
lives-more past f none h = record {
  all = All-cons IsFirst (told past f) past
      (λ n at. ap (λ (p : Who). life_at p past) at ∙ h.present n) h.all;
  present = λ n. rw (none n) (h.present n);
}

never : (f : Fact) → begins_life f.event ≡ false → (n : ℕ)
    → (is_at n f.who && begins_life f.event) ≡ false
never f e n = rw e (and-false (is_at n f.who))

abbrev lives-of : (w : Moment) → FirstLives w → Lives w.past
lives-of w h = record { all = h.past; present = h.present }

abbrev InFirst : List Lists → Type 0
InFirst nodes = Placed (λ n l. l.life ≡ first_life) nodes

pub first-net : (w : Moment) (f : Fact) → f.who ≡ Net → FirstLives w → FirstLives (moved w f)
first-net w f who h =
    let k = lives-more w.past f
    (λ n. ap (λ (p : Who). is_at n p && begins_life f.event) who) (lives-of w h) in
    record {
      past = k.all;
      present = k.present;
      nodes = subst InFirst (sym (nodes-net w f who)) h.nodes;
    }

pub first-made : (w : Moment) (limits : Limits) → FirstLives w → FirstLives (made_at w limits)
first-made w limits h =
    let f = plain (length w.nodes) (Made limits.ring) in
    let k = lives-more w.past f (never f refl) (lives-of w h) in
    record {
      past = k.all;
      present = k.present;
      nodes = add-placed (λ n l. l.life ≡ first_life) w.nodes
          (new_lists (length w.nodes) first_life limits) refl h.nodes;
    }

unmade-life : (e : Event) → is_made e ≡ false → begins_life e ≡ false
unmade-life (Made ring) h = refl
unmade-life (Restarted life) h = cc
unmade-life _ h = refl

pub first-node : (w : Moment) (n : ℕ) (l : Lists) (f : Fact) → AtNode w n l f → FirstLives w
    → FirstLives (moved w f)
first-node w n l f a h =
    let unmade = may-unmade w.hand l f.event f.first f.second a.allowed.may in
    let k = lives-more w.past f (never f (unmade-life f.event unmade)) (lives-of w h) in
    let same : (moved w f).nodes ≡ slice_set w.nodes n (after w.clock l f) =
    ap (λ (u : Moment). u.nodes) (moved-node w n l f a) in
    record {
      past = k.all;
      present = k.present;
      nodes = subst InFirst (sym same)
          (set-placed (λ n l. l.life ≡ first_life) w.nodes n l (after w.clock l f) a.is_node
          (h.nodes n l a.is_node) (λ j z ne is. h.nodes j z is));
    }

pub first-pair : (w : Moment) (n m credits : ℕ) (client server : Lists)
    → Ends w n m credits client server → FirstLives w
    → FirstLives (paired w n m credits client server)
first-pair w n m credits client server ends h =
    let one = client_fact n m credits client server in
    let two = server_fact n m credits client server in
    let k1 = lives-more w.past one (never one refl) (lives-of w h) in
    let k = lives-more (told w.past one ∷ w.past) two (never two refl) k1 in
    let nodes : InFirst (nodes1 w n m credits client server ends) =
    set-placed (λ n l. l.life ≡ first_life) w.nodes n client
    (lists1 w n m credits client server ends) ends.is_client
    (h.nodes n client ends.is_client) (λ j z ne is. h.nodes j z is) in
    record {
      past = k.all;
      present = k.present;
      nodes = subst InFirst (sym (paired-nodes w n m credits client server ends))
          (set-placed (λ n l. l.life ≡ first_life) (nodes1 w n m credits client server ends) m
          server (lists2 w n m credits client server ends)
          (is_server1 w n m credits client server ends) (h.nodes m server ends.is_server)
          (λ j z ne is. nodes j z is));
    }
