-- What the step does to the arrays is what 01's step does to the tables that they mean, type by type. Assumes nothing.
use mathlib.Core.Path.{◌≡◌, sym, ap, ◌∙◌}
use Prim.Native.Nat.{ℕ, suc, ◌≤◌, ◌<◌}
use mathlib.Core.Bool.{Bool, true, false}
use mathlib.Core.List.{List}
use native.Mathlib.Omega.{arith}
use lib.ListN.{length, get_or, drop, length-drop}
use lib.Dec.{eqb, ltb}
use borrow.Author.Tests.{eqb-true, eq-eqb, ne_eqb, ltb-true, ltb-false}
use Rattle.laws.specs.Bytes.{be16_at}
use Rattle.tables.specs.Keys.{first_of, seat_of, over_of}
use Rattle.tables.specs.Places.{places_of, value_at}
use Rattle.tables.proofs.Laws.{first_holds}
use Rattle.tables.proofs.Places.{has_room-places, is_held-places, stored-numbers, stored-again, replaced-numbers, value_at-held, value_at-none, removed-places, seat-held, seat-new}
use Rattle.utf8.specs.Scan.{is_text}
use Rattle.transport.specs.Status.{accepted_of, needed_of}
use Rattle.transport.specs.Number.{number_of}
use Rattle.transport.specs.Response.{receive_read_of, response_in}
use Rattle.address.specs.Address.{address_of}
use Rattle.answers.specs.Counters
use Rattle.answers.specs.Types
use Rattle.answers.specs.Types.{counter_of}
use Rattle.answers.specs.Stored.{command_key, kept_limit, pool_size}
use Rattle.receive_frames.specs.Receive.{captured_in, receive_request_in, answered_in, receive_response_in, good_in}
use Rattle.command_frames.specs.Command.{is_last_in, note_in, keep_in, asked_in, command_request_in, finished_in, command_response_in}
use Rattle.plain_frames.specs.Plain.{identity_in, enumeration_end_in, version_in, enumeration_start_in, count_in, by_type_in, untabled_in}
use Rattle.transport_receiver.specs.State.{Frame, state_of, command_in}
use Rattle.transport_receiver.specs.Step.{step_of, handled_of, is_last, is_over_limit, reset_of}
use Rattle.transport_receiver.specs.Handed.{told, told_reset}
use Rattle.transport_receiver.specs.Lent.{Stepped, WasReset, noted_of, seated_of, after_asked, after_counted, after_requested, after_answered, after_received, handled_in, step_in, reset_in}
use Rattle.transport_receiver.specs.declared.Receiver.{Receiver}
use Rattle.transport_receiver.proofs.Pool.{is_over_limit-places, stored-commands}
use Rattle.laws.proofs.Cases.{by}

-- the arrays' lengths, as their types have them
pub record Sized (r : Receiver) : Type 0 where
  pub nkeys : length r.numbers.keys ≡ 32
  pub numbers : length r.numbers.values ≡ 32
  pub skeys : length r.sequences.keys ≡ 32
  pub sequences : length r.sequences.values ≡ 32
  pub ckeys : length r.commands.keys ≡ 64
  pub ctypes : length r.commands.types ≡ 64
  pub clengths : length r.commands.lengths ≡ 64
  pub cpayloads : length r.commands.payloads ≡ pool_size
  pub counters : length r.counters ≡ 33

abbrev frame : Bool → ℕ → ℕ → List ℕ → Frame
frame from g frame_type p = record { from = from; gateway = g; frame_type = frame_type; payload = p }

-- whether a sequence is the gateway's last is asked of the seat
module _ (keys sequences : List ℕ) (g s : ℕ) where
  last-held : first_of keys (suc g) < length keys → is_last (value_at (places_of keys (λ i. get_or sequences i 0)) g) s ≡ is_last_in keys sequences (seat_of keys (suc g)) (suc g) s
  unfolding is_last_in
  last-held h = rw (value_at-held (λ i. get_or sequences i 0) keys g h, seat-held keys (suc g) h, eq-eqb _ _ (first_holds keys (suc g) h))

  last-new : length keys ≤ first_of keys (suc g) → seat_of keys (suc g) < length keys → is_last (value_at (places_of keys (λ i. get_or sequences i 0)) g) s ≡ is_last_in keys sequences (seat_of keys (suc g)) (suc g) s
  unfolding is_last_in
  last-new h room =
      let e : seat_of keys (suc g) ≡ first_of keys 0 = seat-new keys (suc g) h in
      rw (value_at-none (λ i. get_or sequences i 0) keys g h, e, first_holds keys 0 (rw e at room), ne_eqb 0 (suc g) (λ z. omega arith))

  last : seat_of keys (suc g) < length keys → is_last (value_at (places_of keys (λ i. get_or sequences i 0)) g) s ≡ is_last_in keys sequences (seat_of keys (suc g)) (suc g) s
  last room = by (ltb (first_of keys (suc g)) (length keys)) (λ t. last-held (ltb-true _ _ t)) (λ t. last-new (ltb-false _ _ t) room)

  -- of a sequence that is the last, both parts of the test hold
  last-parts : is_last_in keys sequences (seat_of keys (suc g)) (suc g) s ≡ true → (get_or keys (seat_of keys (suc g)) 0 ≡ suc g) × (get_or sequences (seat_of keys (suc g)) 0 ≡ s)
  unfolding is_last_in
  last-parts e =
      by (eqb (get_or keys (seat_of keys (suc g)) 0) (suc g))
      (λ a. (eqb-true _ _ a, eqb-true _ _ (rw a at e)))
      (λ a. absurd (let f : false ≡ true = rw a at e in let z : ◌≡◌ {A = ℕ} 0 1 = cc in omega arith))

module _ (r : Receiver) (from : Bool) (g : ℕ) (p : List ℕ) where
  enumeration-end : told (frame from g Types.enumeration_end_response p) (after_counted r (enumeration_end_in r.counters from)) ≡ handled_of (state_of r) (frame from g Types.enumeration_end_response p)
  unfolding handled_of enumeration_end_in state_of
  enumeration-end = by from (λ e. rw e) (λ e. rw e)

  identify : told (frame from g Types.identify_response p) (after_counted r (identity_in r.counters Counters.identify_responses Counters.invalid_identify_responses from p)) ≡ handled_of (state_of r) (frame from g Types.identify_response p)
  unfolding handled_of identity_in state_of
  identify = by from (λ e. by (eqb (length p) 10) (λ l. rw (e, l)) (λ l. rw (e, l))) (λ e. rw e)

  enumeration_response : told (frame from g Types.enumeration_response p) (after_counted r (identity_in r.counters Counters.enumeration_responses Counters.invalid_enumeration_responses from p)) ≡ handled_of (state_of r) (frame from g Types.enumeration_response p)
  unfolding handled_of identity_in state_of
  enumeration_response = by from (λ e. by (eqb (length p) 10) (λ l. rw (e, l)) (λ l. rw (e, l))) (λ e. rw e)

  version : told (frame from g Types.version_response p) (after_counted r (version_in r.counters from p)) ≡ handled_of (state_of r) (frame from g Types.version_response p)
  unfolding handled_of version_in state_of
  version = by from (λ e. by (is_text p) (λ l. rw (e, l)) (λ l. rw (e, l))) (λ e. rw e)

  enumeration-start : told (frame from g Types.enumeration_start_request p) (after_counted r (enumeration_start_in r.counters from g p)) ≡ handled_of (state_of r) (frame from g Types.enumeration_start_request p)
  unfolding handled_of enumeration_start_in state_of address_of
  enumeration-start =
      by from (λ e. rw e)
      (λ e. by (eqb g 0)
      (λ z. by (eqb (length p) 6)
      (λ l. by (ltb (be16_at p 4) 0x8000) (λ t. rw (e, z, l, t)) (λ t. rw (e, z, l, t)))
      (λ l. rw (e, z, l)))
      (λ z. rw (e, z)))

  receive_request : Sized r → told (frame from g Types.receive_request p) (after_asked r (captured_in r.numbers.keys r.numbers.values r.counters from g p)) ≡ handled_of (state_of r) (frame from g Types.receive_request p)
  unfolding handled_of captured_in state_of
  receive_request z =
      by from (λ e. rw e)
      (λ e. by (eqb (length p) 5)
      (λ l. by (ltb (seat_of r.numbers.keys (suc g)) 32)
      (λ t. rw (e, l, has_room-places (λ i. get_or r.numbers.values i 0) r.numbers.keys g, z.nkeys, t) (rw (stored-numbers r.numbers.keys r.numbers.values g (be16_at p 2) (z.numbers ∙ sym z.nkeys) (rw z.nkeys (ltb-true _ _ t)))))
      (λ t. rw (e, l, has_room-places (λ i. get_or r.numbers.values i 0) r.numbers.keys g, z.nkeys, t)))
      (λ l. rw (e, l)))

  abbrev q : ℕ
  q = seat_of r.sequences.keys (suc g)

  abbrev key : ℕ
  key = command_key g (get_or p 4 0)

  command_request : Sized r → over_of r.commands.keys r.commands.lengths kept_limit ≡ false → length p ≤ 250 → told (frame from g Types.command_request p) (after_requested r (asked_in (noted_of r) (seated_of r) from g p)) ≡ handled_of (state_of r) (frame from g Types.command_request p)
  unfolding handled_of asked_in note_in keep_in state_of
  command_request z within few =
      let hs = has_room-places (λ i. get_or r.sequences.values i 0) r.sequences.keys g in
      let hc = has_room-places (command_in r.commands.types r.commands.lengths r.commands.payloads) r.commands.keys key in
      let kept-command : ltb (seat_of r.commands.keys (suc key)) 64 ≡ true → _ = λ b. stored-commands r.commands.keys r.commands.types r.commands.lengths r.commands.payloads key (get_or p 3 0) (drop 5 p) z.ctypes z.clengths z.cpayloads z.ckeys within (ltb-true _ _ b) (omega (arith, length-drop 5 p)) in
      by from (λ e. rw e)
      (λ e. by (ltb (length p) 5) (λ l. rw (e, l))
      (λ l. by (ltb q 32)
      (λ a. by (ltb (seat_of r.commands.keys (suc key)) 64)
      (λ b. by (is_last_in r.sequences.keys r.sequences.values q (suc g) (get_or p 4 0))
      (λ t. rw (e, l, hs, z.skeys, a, hc, z.ckeys, b, last r.sequences.keys r.sequences.values g (get_or p 4 0) (rw z.skeys (ltb-true _ _ a)), t) (rw (← stored-again r.sequences.keys r.sequences.values g (get_or p 4 0) (z.sequences ∙ sym z.skeys) (last-parts r.sequences.keys r.sequences.values g (get_or p 4 0) t).0 (last-parts r.sequences.keys r.sequences.values g (get_or p 4 0) t).1 (rw z.skeys (ltb-true _ _ a)), kept-command b)))
      (λ t. rw (e, l, hs, z.skeys, a, hc, z.ckeys, b, last r.sequences.keys r.sequences.values g (get_or p 4 0) (rw z.skeys (ltb-true _ _ a)), t) (rw (stored-numbers r.sequences.keys r.sequences.values g (get_or p 4 0) (z.sequences ∙ sym z.skeys) (rw z.skeys (ltb-true _ _ a)), kept-command b))))
      (λ b. rw (e, l, hs, z.skeys, a, hc, z.ckeys, b)))
      (λ a. rw (e, l, hs, z.skeys, a))))

  command_response : Sized r → told (frame from g Types.command_response p) (after_answered r (finished_in r.commands.keys r.commands.types r.commands.lengths r.counters from g p)) ≡ handled_of (state_of r) (frame from g Types.command_response p)
  unfolding handled_of finished_in state_of
  command_response z =
      let hc = is_held-places (command_in r.commands.types r.commands.lengths r.commands.payloads) r.commands.keys key in
      by from
      (λ e. by (ltb (length p) 5) (λ l. rw (e, l))
      (λ l. by (ltb (first_of r.commands.keys (suc key)) 64)
      (λ t. rw (e, l, hc, z.ckeys, t) (rw (removed-places (command_in r.commands.types r.commands.lengths r.commands.payloads) r.commands.keys key, value_at-held (command_in r.commands.types r.commands.lengths r.commands.payloads) r.commands.keys key (rw z.ckeys (ltb-true _ _ t)))))
      (λ t. rw (e, l, hc, z.ckeys, t))))
      (λ e. rw e)

  receive_response : Sized r → told (frame from g Types.receive_response p) (after_received r (answered_in r.numbers.keys r.numbers.values r.counters from g p)) ≡ handled_of (state_of r) (frame from g Types.receive_response p)
  unfolding handled_of answered_in receive_read_of response_in good_in state_of
  receive_response z =
      let i = first_of r.numbers.keys (suc g) in
      let hn = is_held-places (λ i. get_or r.numbers.values i 0) r.numbers.keys g in
      by from
      (λ e. by (ltb (first_of r.numbers.keys (suc g)) 32)
      (λ t. by (ltb (length p) 2) (λ l. rw (e, hn, z.nkeys, t, l))
      (λ l. by (accepted_of (be16_at p 0))
      (λ a. by (ltb (length p) (needed_of (be16_at p 0)))
      (λ n. rw (e, hn, z.nkeys, t, l, a, n))
      (λ n. rw (e, value_at-held (λ i. get_or r.numbers.values i 0) r.numbers.keys g (rw z.nkeys (ltb-true _ _ t)), ← replaced-numbers r.numbers.keys r.numbers.values g (number_of (be16_at p 0) p (get_or r.numbers.values i 0)) (z.numbers ∙ sym z.nkeys) (rw z.nkeys (ltb-true _ _ t)), hn, z.nkeys, t, l, a, n)))
      (λ a. rw (e, hn, z.nkeys, t, l, a))))
      (λ t. rw (e, hn, z.nkeys, t)))
      (λ e. rw e)

-- any type, the eighteen one by one and then the rest
module _ (r : Receiver) (z : Sized r) (within : over_of r.commands.keys r.commands.lengths kept_limit ≡ false) (from : Bool) (g : ℕ) (p : List ℕ) (b : ltb 0x7fff g ≡ false) (c : ltb 250 (length p) ≡ false) where
  abbrev Refined : ℕ → Type 0
  Refined frame_type = told (frame from g frame_type p) (handled_in r (frame from g frame_type p)) ≡ handled_of (state_of r) (frame from g frame_type p)

  abbrev at : (frame_type : ℕ) {P : Type 0} (t : ℕ) → (frame_type ≡ t → P) → (eqb frame_type t ≡ false → P) → P
  at frame_type t hit miss = by (eqb frame_type t) (λ e. hit (eqb-true frame_type t e)) miss

  is-receive-request : Refined Types.receive_request
  unfolding handled_in receive_request_in
  is-receive-request = rw (b, c) (receive_request r from g p z)

  is-receive-response : Refined Types.receive_response
  unfolding handled_in receive_response_in
  is-receive-response = rw (b, c) (receive_response r from g p z)

  is-command-request : Refined Types.command_request
  unfolding handled_in command_request_in
  is-command-request = rw (b, c) (command_request r from g p z within (ltb-false 250 (length p) c))

  is-command-response : Refined Types.command_response
  unfolding handled_in command_response_in
  is-command-response = rw (b, c) (command_response r from g p z)

  is-enumeration-start-request : Refined Types.enumeration_start_request
  unfolding handled_in untabled_in by_type_in
  is-enumeration-start-request = rw (b, c) (enumeration-start r from g p)

  is-enumeration-response : Refined Types.enumeration_response
  unfolding handled_in untabled_in by_type_in
  is-enumeration-response = rw (b, c) (enumeration_response r from g p)

  is-identify-response : Refined Types.identify_response
  unfolding handled_in untabled_in by_type_in
  is-identify-response = rw (b, c) (identify r from g p)

  is-version-response : Refined Types.version_response
  unfolding handled_in untabled_in by_type_in
  is-version-response = rw (b, c) (version r from g p)

  is-enumeration-end-response : Refined Types.enumeration_end_response
  unfolding handled_in untabled_in by_type_in
  is-enumeration-end-response = rw (b, c) (enumeration-end r from g p)

  is-ping-request : Refined Types.ping_request
  unfolding handled_in untabled_in by_type_in count_in counter_of handled_of state_of
  is-ping-request = rw (b, c)

  is-ping-response : Refined Types.ping_response
  unfolding handled_in untabled_in by_type_in count_in counter_of handled_of state_of
  is-ping-response = rw (b, c)

  is-enumeration-start-response : Refined Types.enumeration_start_response
  unfolding handled_in untabled_in by_type_in count_in counter_of handled_of state_of
  is-enumeration-start-response = rw (b, c)

  is-enumeration-request : Refined Types.enumeration_request
  unfolding handled_in untabled_in by_type_in count_in counter_of handled_of state_of
  is-enumeration-request = rw (b, c)

  is-assign-gateway-id-request : Refined Types.assign_gateway_id_request
  unfolding handled_in untabled_in by_type_in count_in counter_of handled_of state_of
  is-assign-gateway-id-request = rw (b, c)

  is-assign-gateway-id-response : Refined Types.assign_gateway_id_response
  unfolding handled_in untabled_in by_type_in count_in counter_of handled_of state_of
  is-assign-gateway-id-response = rw (b, c)

  is-identify-request : Refined Types.identify_request
  unfolding handled_in untabled_in by_type_in count_in counter_of handled_of state_of
  is-identify-request = rw (b, c)

  is-version-request : Refined Types.version_request
  unfolding handled_in untabled_in by_type_in count_in counter_of handled_of state_of
  is-version-request = rw (b, c)

  is-enumeration-end-request : Refined Types.enumeration_end_request
  unfolding handled_in untabled_in by_type_in count_in counter_of handled_of state_of
  is-enumeration-end-request = rw (b, c)

  refines-handled : (frame_type : ℕ) → Refined frame_type
  unfolding handled_in untabled_in by_type_in count_in counter_of handled_of state_of
  refines-handled frame_type =
      at frame_type Types.receive_request (λ e. rw e is-receive-request)
      (λ n1. at frame_type Types.receive_response (λ e. rw e is-receive-response)
      (λ n2. at frame_type Types.command_request (λ e. rw e is-command-request)
      (λ n3. at frame_type Types.command_response (λ e. rw e is-command-response)
      (λ n4. at frame_type Types.enumeration_start_request (λ e. rw e is-enumeration-start-request)
      (λ n5. at frame_type Types.enumeration_response (λ e. rw e is-enumeration-response)
      (λ n6. at frame_type Types.identify_response (λ e. rw e is-identify-response)
      (λ n7. at frame_type Types.version_response (λ e. rw e is-version-response)
      (λ n8. at frame_type Types.enumeration_end_response (λ e. rw e is-enumeration-end-response)
      (λ n9. at frame_type Types.ping_request (λ e. rw e is-ping-request)
      (λ n10. at frame_type Types.ping_response (λ e. rw e is-ping-response)
      (λ n11. at frame_type Types.enumeration_start_response (λ e. rw e is-enumeration-start-response)
      (λ n12. at frame_type Types.enumeration_request (λ e. rw e is-enumeration-request)
      (λ n13. at frame_type Types.assign_gateway_id_request (λ e. rw e is-assign-gateway-id-request)
      (λ n14. at frame_type Types.assign_gateway_id_response (λ e. rw e is-assign-gateway-id-response)
      (λ n15. at frame_type Types.identify_request (λ e. rw e is-identify-request)
      (λ n16. at frame_type Types.version_request (λ e. rw e is-version-request)
      (λ n17. at frame_type Types.enumeration_end_request (λ e. rw e is-enumeration-end-request)
      (λ n18. rw (b, c, n1, n2, n3, n4, n5, n6, n7, n8, n9, n10, n11, n12, n13, n14, n15, n16, n17, n18)))))))))))))))))))

-- 12, 13 and 32 are asked of the arrays as of the tables; behind them both steps go by the type
module _ (r : Receiver) (f : Frame) where
  over-same : is_over_limit (state_of r).tables.commands ≡ over_of r.commands.keys r.commands.lengths kept_limit
  unfolding state_of
  over-same = is_over_limit-places r.commands.keys r.commands.types r.commands.lengths r.commands.payloads

  pub refused-12 : over_of r.commands.keys r.commands.lengths kept_limit ≡ true → told f (step_in r f) ≡ step_of (state_of r) f
  unfolding step_in step_of
  refused-12 a = rw (over-same, a)

  pub refused-13 : over_of r.commands.keys r.commands.lengths kept_limit ≡ false → ltb 0x7fff f.gateway ≡ true → told f (step_in r f) ≡ step_of (state_of r) f
  unfolding step_in step_of
  refused-13 a b = rw (over-same, a, b)

  pub refused-32 : over_of r.commands.keys r.commands.lengths kept_limit ≡ false → ltb 0x7fff f.gateway ≡ false → ltb 250 (length f.payload) ≡ true → told f (step_in r f) ≡ step_of (state_of r) f
  unfolding step_in step_of
  refused-32 a b c = rw (over-same, a, b, c)

  passed : over_of r.commands.keys r.commands.lengths kept_limit ≡ false → ltb 0x7fff f.gateway ≡ false → ltb 250 (length f.payload) ≡ false → told f (handled_in r f) ≡ handled_of (state_of r) f → told f (step_in r f) ≡ step_of (state_of r) f
  unfolding step_in step_of handled_of
  passed a b c e = rw (over-same, a, b, c) e

-- the step over the arrays is 01's step over the tables that they mean
pub refines : (r : Receiver) → Sized r → (f : Frame) → told f (step_in r f) ≡ step_of (state_of r) f
refines r z f =
    by (over_of r.commands.keys r.commands.lengths kept_limit) (refused-12 r f)
    (λ a. by (ltb 0x7fff f.gateway) (refused-13 r f a)
    (λ b. by (ltb 250 (length f.payload)) (refused-32 r f a b)
    (λ c. passed r f a b c (refines-handled r z a f.from f.gateway f.payload b c f.frame_type))))

-- what the reset does to the arrays is what 01's reset does to the tables that they mean
pub reset-refines : (r : Receiver) → told_reset (reset_in r) ≡ reset_of (state_of r)
unfolding reset_in reset_of state_of
reset-refines r =
    by (over_of r.commands.keys r.commands.lengths kept_limit)
    (λ e. rw (is_over_limit-places r.commands.keys r.commands.types r.commands.lengths r.commands.payloads, e))
    (λ e. rw (is_over_limit-places r.commands.keys r.commands.types r.commands.lengths r.commands.payloads, e))

-- what a function gives that is right over the arrays is right in 01's words
pub step_means : (t : Stepped) (r : Receiver) → Sized r → (f : Frame) → t ≡ step_in r f → told f t ≡ step_of (state_of r) f
step_means t r z f e = ap (told f) e ∙ refines r z f

pub reset_means : (t : WasReset) (r : Receiver) → t ≡ reset_in r → told_reset t ≡ reset_of (state_of r)
reset_means t r e = ap told_reset e ∙ reset-refines r
