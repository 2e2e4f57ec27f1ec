-- 12 with tallies that a host lends. Over any check. Assumes nothing.
use Rattle.std.proofs.Common.{◌≡◌, ℕ, ◌<◌, Err, List, ap, ◌∙◌}
use Rattle.link_receive.specs.declared.Receiver.{Receiver}
use Rattle.link_receive.specs.declared.Stepped.{Stepped}
use Rattle.link_receive.specs.declared.Tallies.{Tallies}
use Rattle.link_receive.specs.Step.{rules_of, refused_of}
use Rattle.link_receive.proofs.Rules.{rules_of-made}
use Rattle.link_receive.proofs.Steps.{step_of-over}
use Rattle.link_feed.specs.declared.Fed.{Fed}
use Rattle.link_feed.specs.Feed.{stopped}
use Rattle.link_feed.specs.Tallies.{lent_to, Pushed, FedWith}
use Rattle.link_feed.proofs.Feeds.{feed_of-over}

module _ (check : List ℕ → ℕ) where
  -- it changes nothing, the lent tallies included
  pub refused-keeps : (t u : Tallies) (r : Receiver) (b : ℕ) (x : Stepped) → (rules_of r).limit < r.len → Pushed check t r b x u → (x ≡ refused_of (lent_to r t)) × (u ≡ t)
  refused-keeps t u r b x h p =
      let e : x ≡ refused_of (lent_to r t) = p.exactly ∙ step_of-over check (lent_to r t) b (rw (rules_of-made r r.state r.body r.len t) h) in
      (e, p.lent ∙ ap (λ (y : Stepped). y.next.tallies) e)

  pub refused-feeds : (t u : Tallies) (r : Receiver) (s : List ℕ) (x : Fed) → (rules_of r).limit < r.len → FedWith check t r s x u → (x ≡ stopped (lent_to r t) (Err (record {})) 0) × (u ≡ t)
  refused-feeds t u r s x h p =
      let e : x ≡ stopped (lent_to r t) (Err (record {})) 0 = p.exactly ∙ feed_of-over check (lent_to r t) s (rw (rules_of-made r r.state r.body r.len t) h) in
      (e, p.lent ∙ ap (λ (y : Fed). y.next.tallies) e)
