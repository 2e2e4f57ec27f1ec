-- Of four functions: what a caller learns, written down by hand and proved to be what the contract's clauses say, and that it determines the
-- outcome. Determined.antt has the same of what the checker makes of the contract. Assumes nothing.
use mathlib.Core.Path.{◌≡◌, refl, sym, ap, ap₂, ◌∙◌}
use Prim.Native.Nat.{ℕ, ◌-◌}
use mathlib.Core.List.{List}
use seplogic.Ra.Ura.{Ura}
use base.Logic.{SProp}
use prog.Memory.{Memory}
use prog.Routine.{Routine}
use types.Logic.{Logic}
use contract.Monad.{Fun}
use denote.Ref.{Bor, at_last}
use lib.ListN.{length}
use Rattle.std.specs.Bool.{⊤}
use Rattle.std.specs.Iterator.{MakesProgress, at_most}
use Rattle.promises.specs.Determined.{Says, DeterminedBy, SaidBy, SaidByBoth}
use Rattle.crc.specs.Crc.{crc_of}
use Rattle.link_receive.specs.declared.Stepped.{Stepped}
use Rattle.link_feed.specs.declared.Fed.{Fed}
use Rattle.link_receive.specs.declared.Tallies.{Tallies}
use Rattle.network.specs.declared.received_packets.ReceivedPackets.{ReceivedPackets}
use Rattle.network.specs.Walker.{Next}
use Rattle.link_feed.specs.Tallies.{Pushed, FedWith}
use Rattle.lent_tallies.specs.contracts.push_u8 as push-u8
use Rattle.lent_tallies.specs.contracts.feed as feed
use Rattle.network.specs.contracts.received_packets.ReceivedPackets.new as new
use Rattle.network.specs.contracts.received_packets.ReceivedPacketsIterator.next as next

abbrev push-u8-says : Says push-u8.ended
push-u8-says κs a x e = Pushed crc_of a.0.now a.1.0 a.1.1.0 x e.0.now

pub push-u8-said : {M : Type 1} {𝓤 : Ura M} (𝓛 : Logic 𝓤) (mem : Memory → SProp 𝓤) (run : Routine → Fun 𝓤) → SaidBy 𝓤 push-u8.ended (push-u8.clauses 𝓛 mem run) push-u8-says
push-u8-said 𝓛 mem run κs a g x e = refl

pub lent_tallies-push_u8 : DeterminedBy push-u8.ended push-u8-says
lent_tallies-push_u8 κs a x y u v p q =
    let s : x ≡ y = p.exactly ∙ sym q.exactly in
    (s, ap (λ (t : Tallies). (at_last a.0 t, (a.1.0, (a.1.1.0, tt)))) (p.lent ∙ ap (λ (z : Stepped). z.next.tallies) s ∙ sym q.lent))

abbrev feed-says : Says feed.ended
feed-says κs a x e = FedWith crc_of a.0.now a.1.0 a.1.1.0.now x e.0.now

pub feed-said : {M : Type 1} {𝓤 : Ura M} (𝓛 : Logic 𝓤) (mem : Memory → SProp 𝓤) (run : Routine → Fun 𝓤) → SaidBy 𝓤 feed.ended (feed.clauses 𝓛 mem run) feed-says
feed-said 𝓛 mem run κs a g x e = refl

pub lent_tallies-feed : DeterminedBy feed.ended feed-says
lent_tallies-feed κs a x y u v p q =
    let s : x ≡ y = p.exactly ∙ sym q.exactly in
    (s, ap (λ (t : Tallies). (at_last a.0 t, (a.1.0, (a.1.1.0, tt)))) (p.lent ∙ ap (λ (z : Fed). z.next.tallies) s ∙ sym q.lent))

abbrev new-says : Says new.ended
new-says κs a x e = (x.area ≡ a.0) × (x.at ≡ 0)

pub new-said : {M : Type 1} {𝓤 : Ura M} (𝓛 : Logic 𝓤) (mem : Memory → SProp 𝓤) (run : Routine → Fun 𝓤) → SaidBy 𝓤 new.ended (new.clauses 𝓛 mem run) new-says
new-said 𝓛 mem run κs a g x e = refl

pub network-ReceivedPackets-new : DeterminedBy new.ended new-says
network-ReceivedPackets-new κs a x y u v p q = (ap₂ walker (p.0 ∙ sym q.0) (p.1 ∙ sym q.1), refl)
  where
    walker : Bor (List ℕ) → ℕ → ReceivedPackets
    walker s n = record { area = s; at = n }

abbrev next-says : Says next.ended
next-says κs a x e = Next a.0.now x e.0.now

-- a walker is an `Iterator`, whose contract has a second clause: it ends
abbrev next-ends : Says next.ended
next-ends κs a x e = MakesProgress (λ (w : ReceivedPackets). ⊤) (λ (w : ReceivedPackets). at_most (length w.area.now - w.at)) a.0.now x e.0.now

pub next-said : {M : Type 1} {𝓤 : Ura M} (𝓛 : Logic 𝓤) (mem : Memory → SProp 𝓤) (run : Routine → Fun 𝓤) → SaidByBoth 𝓤 next.ended (next.clauses 𝓛 mem run) next-says next-ends
next-said 𝓛 mem run κs a g x e = refl

pub network-ReceivedPackets-next : DeterminedBy next.ended next-says
network-ReceivedPackets-next κs a x y u v p q =
    (p.tells ∙ sym q.tells, ap (λ (w : ReceivedPackets). (at_last a.0 w, tt)) (p.moves ∙ sym q.moves))
