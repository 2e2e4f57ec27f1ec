-- What `write` is given after a step: the event of the code's answer is the event of 01's step, so that the writer hands back 40 or the whole
-- length, and nothing else; 13 alone to a frame that the step refuses by 13. Assumes nothing.
use mathlib.Core.Path.{◌≡◌, refl, sym, ◌∙◌, ap}
use Prim.Native.Nat.{ℕ, suc, ◌≤◌, ◌<◌}
use mathlib.Core.Bool.{true, false, cond}
use mathlib.Core.List.{List, []}
use native.Mathlib.Omega.{arith}
use lib.ListN.{length, get_or, drop}
use lib.Dec.{ltb}
use borrow.Author.Tests.{ltb-true, ltb-false, le-ltb, lt-ltb}
use Rattle.laws.specs.Bytes.{Bytes, laid_over, laid_if}
use Rattle.laws.specs.Handed.{Handed, refused, value}
use Rattle.address.specs.Address.{id_limit}
use Rattle.tables.specs.Keys.{first_of, over_of}
use Rattle.sound_record.specs.Record.{written, sound_at}
use Rattle.answers.specs.Types
use Rattle.answers.specs.Stored.{command_key, kept_limit}
use Rattle.command_frames.specs.Command.{finished_in, command_response_in}
use Rattle.network.specs.declared.PacketType.{PacketType}
use Rattle.transport_receiver.specs.State.{State, Frame, payload_at, state_of}
use Rattle.transport_receiver.specs.Step.{Event, command, Outcome, silent, event, step_of, is_over_limit, event_of}
use Rattle.transport_receiver.specs.Step as step
use Rattle.transport_receiver.specs.Lent.{Stepped, request_payload, handled_in, step_in}
use Rattle.transport_receiver.specs.Handed.{outcome_of}
use Rattle.transport_receiver.specs.declared.Receiver.{Receiver}
use Rattle.std.specs.Prelude.{Ok, Err}
use Rattle.answers.specs.Refusals.{Answer}
use Rattle.answers.specs.declared.Accepted.TheVariants as accepted
use Rattle.answers.specs.declared.Refusal.TheVariants.{WrongDirection, WrongLength, NoRequest}
use Rattle.transport_receiver.proofs.Pool.{is_over_limit-places}
use Rattle.laws.proofs.Cases.{by}
use Rattle.transport_receiver.proofs.Refines.{Sized, refines}
use Rattle.event_log.specs.Records.{Entry, entry_bytes, records_of, records_in, bytes_of, records_handed, answer_handed, answer_bytes}
use Rattle.event_log.specs.Answers.{event_in}
use Rattle.event_log.proofs.Log.{Holds, each-sound, log-holds}
use Rattle.event_log.proofs.Came.{passed-step, came}
use Rattle.event_log.proofs.Writes.{answer-13, answer-records}
use Rattle.event_log.proofs.Every.{Fine, held_small, arrays-small, every-sound, every-small}

-- an executed command points at a place that there is
abbrev Placed : Answer → Type 0
Placed a = (p : ℕ) (q : PacketType) (n : ℕ) (u : PacketType) → a ≡ Ok (accepted.CommandExecuted p q n u) → (p < 64) × (n ≤ kept_limit)

said-placed : (pool p : List ℕ) (g : ℕ) (a : Answer) → Placed a → event_in pool g p a ≡ event_of (outcome_of (payload_at pool) g p a)
unfolding request_payload
said-placed pool p g (Err r) h = refl
said-placed pool p g (Ok accepted.Counted) h = refl
said-placed pool p g (Ok accepted.CommandKept) h = refl
said-placed pool p g (Ok (accepted.EnumerationStarted gateway)) h = refl
said-placed pool p g (Ok accepted.IdentityObserved) h = refl
said-placed pool p g (Ok accepted.VersionObserved) h = refl
said-placed pool p g (Ok accepted.EnumerationEnded) h = refl
said-placed pool p g (Ok accepted.SlotCounterCaptured) h = refl
said-placed pool p g (Ok (accepted.SlotCounterObserved number slot repeat area)) h = refl
said-placed pool p g (Ok (accepted.CommandExecuted i q n u)) h = let j = h i q n u refl in rw (lt-ltb i 64 j.0, le-ltb kept_limit n j.1)

-- only a command response gives a command
from-response : (s : State) (f : Frame) (g t u : ℕ) (q p : List ℕ) → (step_of s f).outcome ≡ event (command g t q u p) → f.frame_type ≡ Types.command_response
from-response s f g t u q p i =
    came s f (λ x. x ≡ command g t q u p → f.frame_type ≡ Types.command_response)
    (λ k e. absurd (let z : ◌≡◌ {A = ℕ} 0 1 = cc in omega arith))
    (λ k n m e. absurd (let z : ◌≡◌ {A = ℕ} 0 1 = cc in omega arith))
    (λ k c v e. k)
    (λ k e. absurd (let z : ◌≡◌ {A = ℕ} 0 1 = cc in omega arith))
    (λ k e. absurd (let z : ◌≡◌ {A = ℕ} 0 1 = cc in omega arith))
    (λ k e. absurd (let z : ◌≡◌ {A = ℕ} 0 1 = cc in omega arith))
    (λ k e. absurd (let z : ◌≡◌ {A = ℕ} 0 1 = cc in omega arith))
    (λ k e. absurd (let z : ◌≡◌ {A = ℕ} 0 1 = cc in omega arith))
    (command g t q u p)
    (passed-step s f (command g t q u p) i).1
    refl

none-over-12 : (r : Receiver) → is_over_limit (state_of r).tables.commands ≡ false → over_of r.commands.keys r.commands.lengths kept_limit ≡ false
unfolding state_of
none-over-12 r o = sym (is_over_limit-places r.commands.keys r.commands.types r.commands.lengths r.commands.payloads) ∙ o

module _ (r : Receiver) (z : Sized r) (f : Frame) where
  placed-response : over_of r.commands.keys r.commands.lengths kept_limit ≡ false → ltb 0x7fff f.gateway ≡ false → ltb 250 (length f.payload) ≡ false → f.frame_type ≡ Types.command_response → Placed (step_in r f).answer
  unfolding step_in handled_in command_response_in finished_in
  placed-response o g l k p q n u e =
      let key = command_key f.gateway (get_or f.payload 4 0) in
      let i = first_of r.commands.keys (suc key) in
      by f.from
      (λ t. by (ltb (length f.payload) 5)
      (λ m. absurd (let y : ◌≡◌ {A = Answer} (Err WrongLength) (Ok (accepted.CommandExecuted p q n u)) = rw (o, g, l, k, t, m) at e in let x : ◌≡◌ {A = ℕ} 0 1 = cc in omega arith))
      (λ m. by (ltb i 64)
      (λ v. let y : ◌≡◌ {A = Answer} (Ok (accepted.CommandExecuted i (record { 0 = get_or r.commands.types i 0 }) (get_or r.commands.lengths i 0) (record { 0 = get_or f.payload 3 0 }))) (Ok (accepted.CommandExecuted p q n u)) = rw (o, g, l, k, t, m, v) at e in
      let a : i ≡ p = cc in
      let b : get_or r.commands.lengths i 0 ≡ n = cc in
      let c = ltb-true i 64 v in
      let d = held_small r key o (omega (arith, z.ckeys)) in
      (omega arith, omega arith))
      (λ v. absurd (let y : ◌≡◌ {A = Answer} (Err NoRequest) (Ok (accepted.CommandExecuted p q n u)) = rw (o, g, l, k, t, m, v) at e in let x : ◌≡◌ {A = ℕ} 0 1 = cc in omega arith))))
      (λ t. absurd (let y : ◌≡◌ {A = Answer} (Err WrongDirection) (Ok (accepted.CommandExecuted p q n u)) = rw (o, g, l, k, t) at e in let x : ◌≡◌ {A = ℕ} 0 1 = cc in omega arith))

  placed-step : Placed (step_in r f).answer
  placed-step p q n u e =
      let t = step_in r f in
      let x = command f.gateway q.0 (payload_at t.receiver.commands.payloads p n) u.0 (drop 5 f.payload) in
      let i : (step_of (state_of r) f).outcome ≡ event x = sym (ap (λ (w : step.Result). w.outcome) (refines r z f)) ∙ ap (outcome_of (payload_at t.receiver.commands.payloads) f.gateway f.payload) e in
      let rows = (passed-step (state_of r) f x i).0 in
      placed-response (none-over-12 r rows.0) rows.1.0 rows.1.1.0 (from-response (state_of r) f _ _ _ _ _ i) p q n u e

  -- the answer's event is that of 01's step
  module _ (t : Stepped) (same : t ≡ step_in r f) where
    pub answer-event : event_in t.receiver.commands.payloads f.gateway f.payload t.answer ≡ event_of (step_of (state_of r) f).outcome
    answer-event =
        rw same (said-placed (step_in r f).receiver.commands.payloads f.payload f.gateway (step_in r f).answer placed-step ∙ ap (λ (w : step.Result). event_of w.outcome) (refines r z f))

    abbrev pub records : List Entry
    records = records_in (event_in t.receiver.commands.payloads f.gateway f.payload t.answer)

    module _ (b : Bytes f.payload) where
      of-outcome : (P : List Entry → Type 0) → P [] → ((e : Event) → (step_of (state_of r) f).outcome ≡ event e → P (records_of e)) → P records
      of-outcome P quiet each = rw answer-event (go (step_of (state_of r) f).outcome refl)
        where
          go : (o : Outcome) → (step_of (state_of r) f).outcome ≡ o → P (records_in (event_of o))
          go (step.refused n) e = quiet
          go (step.refused_with n v) e = quiet
          go silent e = quiet
          go (event x) e = each x e

      -- neither 13 nor 41 refuses the records of an answer ..
      pub answer-fine : Fine records
      answer-fine = of-outcome Fine (refl, refl) (every-sound (state_of r) (arrays-small r) f b)

      pub answer-small : length (bytes_of written records) ≤ 512
      answer-small = of-outcome (λ xs. length (bytes_of written xs) ≤ 512) (omega arith) (every-small (state_of r) (arrays-small r) f b)

      -- .. so that `write` hands back 40, or how many bytes all of them have ..
      module _ (g : f.gateway ≤ id_limit) where
        pub answer-written : (room : ℕ)
            → answer_handed f.gateway records room ≡ cond (ltb room (length (bytes_of written records))) (refused 40) (value (length (bytes_of written records)))
        unfolding records_handed
        answer-written room = answer-records f.gateway records room g ∙ rw (answer-fine.0, answer-fine.1)

        -- .. and a buffer of 512 bytes takes them
        pub answer-fits : (room : ℕ) → 512 ≤ room → answer_handed f.gateway records room ≡ value (length (bytes_of written records))
        answer-fits room h = answer-written room ∙ rw (le-ltb room (length (bytes_of written records)) (omega (arith, answer-small)))

      -- a frame of a gateway above 7fff, to which `write` answers 13 (`answer-13`), has no records: the step refuses it ..
      pub answer-none : id_limit < f.gateway → records ≡ []
      answer-none h =
          of-outcome (λ xs. xs ≡ []) refl
          (λ e q. absurd (let l = ltb-false 0x7fff f.gateway (passed-step (state_of r) f e q).0.1.0 in omega arith))

      -- .. so that, whatever the gateway, `write` lays all records that there are over the start of a buffer of 512 bytes, and changes nothing else
      pub answer-laid : (out : List ℕ) → 512 ≤ length out → answer_bytes f.gateway records out ≡ laid_over (bytes_of written records) out
      answer-laid out h =
          by (ltb 0x7fff f.gateway)
          (λ t. let g = ltb-true 0x7fff f.gateway t in
          ap (λ (x : Handed ℕ). laid_if x (bytes_of written records) out) (answer-13 f.gateway records (length out) g)
          ∙ ap (λ (xs : List Entry). laid_over (bytes_of written xs) out) (sym (answer-none g)))
          (λ t. ap (λ (x : Handed ℕ). laid_if x (bytes_of written records) out) (answer-fits (ltb-false 0x7fff f.gateway t) (length out) h))

      -- .. and each of them is sound: a reader of the log finds just these
      pub answer-sound : (i : ℕ) (d : Entry) → i < length records → sound_at written (entry_bytes written (get_or records i d)) ≡ true
      answer-sound i d l = each-sound records answer-fine.1 i d l

      pub answer-holds : Holds (bytes_of written records) 0 records
      answer-holds = log-holds records answer-fine.1
