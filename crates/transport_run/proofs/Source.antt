-- Up to the first added refusal the receiver is the source's: its tables are the finite maps, its counters the source's counters, and its events
-- what the source tells its sink. Assumes nothing.
use mathlib.Core.Path.{◌≡◌, refl, ◌∙◌, subst}
use Prim.Native.Nat.{ℕ}
use mathlib.Core.Bool.{true, false}
use mathlib.Core.List.{List, []}
use mathlib.Core.Option.{Option, none, some, get_or}
use native.Mathlib.Omega.{arith}
use lib.ListN.{length, replicate}
use lib.Dec.{eqb, ltb}
use borrow.Author.Tests.{eqb-true}
use Rattle.laws.specs.Bytes.{be16_at}
use Rattle.address.specs.Address.{address_of}
use Rattle.utf8.specs.Scan.{is_text}
use Rattle.transport.specs.Status.{accepted_of, needed_of}
use Rattle.transport.specs.Number.{number_of}
use Rattle.tables.specs.Places.{Place, holder, is_held, places_of, has_room, stored, removed, value_at, Distinct, inserted, deleted}
use Rattle.tables.proofs.Maps.{value_at-stored, value_at-removed, value_at-unheld, value_at-is_held, holder-holds}
use Rattle.layouts.specs.Layouts.{request_sequence}
use Rattle.answers.specs.Counters.{counter_count}
use Rattle.answers.specs.Types
use Rattle.answers.specs.Types.{counter_of}
use Rattle.transport_receiver.specs.State.{State, Frame, state_of, fresh}
use Rattle.transport_receiver.specs.Step.{event_of, Result, step_of, reset_of, is_over_limit, gateway_key_of, key_of, answer_key_of, status_of, request_of, frame, reset}
use Rattle.transport_run.specs.Reached.{AllDistinct}
use Rattle.transport_run.specs.Source.{Maps, Source, Taken, source_of, is_added, Agree, no_entries, fresh_source, Follows, start, on}
use Rattle.transport_run.specs.Reached as reached
use Rattle.laws.proofs.Cases.{by}
use Rattle.transport_run.proofs.Reached.{all-free-at, distinct-step, distinct-reset, distinct-reached}

untrue : {P : Type 0} → true ≡ false → P
untrue e = absurd (let z : ◌≡◌ {A = ℕ} 0 1 = cc in omega arith)

-- an entry stored in the table is one inserted in the map
agree-stored : {A : Type 0} (ps : List (Place A)) (m : ℕ → Option A) (k : ℕ) (v : A) → ((j : ℕ) → value_at ps j ≡ m j) → has_room ps k ≡ true → (j : ℕ) → value_at (stored ps k v) j ≡ inserted m k v j
agree-stored ps m k v a room j = value_at-stored ps k v room j ∙ rw (a j)

agree-removed : {A : Type 0} (ps : List (Place A)) (m : ℕ → Option A) (k : ℕ) → ((j : ℕ) → value_at ps j ≡ m j) → Distinct ps → (j : ℕ) → value_at (removed ps k) j ≡ deleted m k j
agree-removed ps m k a d j = value_at-removed ps k d j ∙ rw (a j)

-- what a step and the source say of a frame is the same: the event, the tables and the counters
pub record Same (r : Result) (x : Taken) : Type 0 where
  pub told : event_of r.outcome ≡ x.told
  pub tables : Agree r.state.tables x.after.maps
  pub counters : r.state.counters ≡ x.after.counters

module _ (s : State) (m : Maps) (f : Frame) (d : AllDistinct s.tables) (a : Agree s.tables m) where
  -- the source's receiver with the same counters
  abbrev source : Source
  source = record { maps = m; counters = s.counters }

  abbrev Goal : Type 0
  Goal = is_added (step_of s f).outcome ≡ false → Same (step_of s f) (source_of source f)

  -- that, by its three parts
  abbrev same : {r : Result} {x : Taken} → event_of r.outcome ≡ x.told → Agree r.state.tables x.after.maps → r.state.counters ≡ x.after.counters → Same r x
  same t g c = record { told = t; tables = g; counters = c }

  module _ (o : is_over_limit s.tables.commands ≡ false) (b : ltb 0x7fff f.gateway ≡ false) (c : ltb 250 (length f.payload) ≡ false) where
    receive_request : f.frame_type ≡ Types.receive_request → Goal
    unfolding step_of source_of
    receive_request k n =
        by f.from (λ t. rw (k, o, b, c, t) (same refl a refl))
        (λ t. by (eqb (length f.payload) 5)
        (λ l. by (has_room s.tables.numbers (gateway_key_of f))
        (λ r. rw (k, o, b, c, t, l, r) (same refl (record { numbers = agree-stored s.tables.numbers m.numbers (gateway_key_of f) (be16_at f.payload 2) a.numbers r; sequences = a.sequences; commands = a.commands }) refl))
        (λ r. untrue (rw (k, o, b, c, t, l, r) at n)))
        (λ l. rw (k, o, b, c, t, l) (same refl a refl)))

    command_request : f.frame_type ≡ Types.command_request → Goal
    unfolding step_of source_of
    command_request k n =
        by f.from (λ t. rw (k, o, b, c, t) (same refl a refl))
        (λ t. by (ltb (length f.payload) 5) (λ l. rw (k, o, b, c, t, l) (same refl a refl))
        (λ l. by (has_room s.tables.sequences (gateway_key_of f))
        (λ q. by (has_room s.tables.commands (key_of f))
        (λ r. rw (k, o, b, c, t, l, q, r, ← a.sequences (gateway_key_of f)) (same refl (record { numbers = a.numbers; sequences = agree-stored s.tables.sequences m.sequences (gateway_key_of f) (request_sequence f.payload) a.sequences q; commands = agree-stored s.tables.commands m.commands (key_of f) (request_of f.payload) a.commands r }) refl))
        (λ r. untrue (rw (k, o, b, c, t, l, q, r) at n)))
        (λ q. untrue (rw (k, o, b, c, t, l, q) at n))))

    waiting : is_held s.tables.commands (answer_key_of f) ≡ true → value_at s.tables.commands (answer_key_of f) ≡ some (get_or (value_at s.tables.commands (answer_key_of f)) (request_of []))
    waiting h = value_at-is_held s.tables.commands (answer_key_of f) (request_of []) h

    command_response : f.frame_type ≡ Types.command_response → Goal
    unfolding step_of source_of
    command_response k n =
        by f.from
        (λ t. by (ltb (length f.payload) 5) (λ l. rw (k, o, b, c, t, l) (same refl a refl))
        (λ l. by (is_held s.tables.commands (answer_key_of f))
        (λ h. rw (k, o, b, c, t, l, ← a.commands (answer_key_of f), waiting h, h) (same refl (record { numbers = a.numbers; sequences = a.sequences; commands = agree-removed s.tables.commands m.commands (answer_key_of f) a.commands d.commands }) refl))
        (λ h. rw (k, o, b, c, t, l, ← a.commands (answer_key_of f), value_at-unheld s.tables.commands (answer_key_of f) h, h) (same refl a refl))))
        (λ t. rw (k, o, b, c, t) (same refl a refl))

    known : is_held s.tables.numbers (gateway_key_of f) ≡ true → value_at s.tables.numbers (gateway_key_of f) ≡ some (get_or (value_at s.tables.numbers (gateway_key_of f)) 0)
    known h = value_at-is_held s.tables.numbers (gateway_key_of f) 0 h

    room : is_held s.tables.numbers (gateway_key_of f) ≡ true → has_room s.tables.numbers (gateway_key_of f) ≡ true
    room h = rw h

    receive_response : f.frame_type ≡ Types.receive_response → Goal
    unfolding step_of source_of
    receive_response k n =
        by f.from
        (λ t. by (is_held s.tables.numbers (gateway_key_of f))
        (λ h. by (ltb (length f.payload) 2) (λ l. rw (k, o, b, c, t, ← a.numbers (gateway_key_of f), known h, h, l) (same refl a refl))
        (λ l. by (accepted_of (status_of f))
        (λ x. by (ltb (length f.payload) (needed_of (status_of f)))
        (λ y. rw (k, o, b, c, t, ← a.numbers (gateway_key_of f), known h, h, l, x, y) (same refl a refl))
        (λ y. rw (k, o, b, c, t, ← a.numbers (gateway_key_of f), known h, h, l, x, y) (same refl (record { numbers = λ j. rw h at (agree-stored s.tables.numbers m.numbers (gateway_key_of f) (number_of (status_of f) f.payload (get_or (value_at s.tables.numbers (gateway_key_of f)) 0)) a.numbers (room h) j); sequences = a.sequences; commands = a.commands }) refl)))
        (λ x. rw (k, o, b, c, t, ← a.numbers (gateway_key_of f), known h, h, l, x) (same refl a refl))))
        (λ h. rw (k, o, b, c, t, ← a.numbers (gateway_key_of f), value_at-unheld s.tables.numbers (gateway_key_of f) h, h) (same refl a refl)))
        (λ t. rw (k, o, b, c, t) (same refl a refl))

    -- the other types touch no map, and no table
    enumeration-start : f.frame_type ≡ Types.enumeration_start_request → Goal
    unfolding step_of source_of address_of
    enumeration-start k n =
        by f.from (λ t. rw (k, o, b, c, t) (same refl a refl))
        (λ t. by (eqb f.gateway 0)
        (λ z. by (eqb (length f.payload) 6)
        (λ l. by (ltb (be16_at f.payload 4) 0x8000) (λ q. rw (k, o, b, c, t, z, l, q) (same refl a refl)) (λ q. rw (k, o, b, c, t, z, l, q) (same refl a refl)))
        (λ l. rw (k, o, b, c, t, z, l) (same refl a refl)))
        (λ z. rw (k, o, b, c, t, z) (same refl a refl)))

    enumeration_response : f.frame_type ≡ Types.enumeration_response → Goal
    unfolding step_of source_of
    enumeration_response k n =
        by f.from
        (λ t. by (eqb (length f.payload) 10) (λ l. rw (k, o, b, c, t, l) (same refl a refl)) (λ l. rw (k, o, b, c, t, l) (same refl a refl)))
        (λ t. rw (k, o, b, c, t) (same refl a refl))

    identify_response : f.frame_type ≡ Types.identify_response → Goal
    unfolding step_of source_of
    identify_response k n =
        by f.from
        (λ t. by (eqb (length f.payload) 10) (λ l. rw (k, o, b, c, t, l) (same refl a refl)) (λ l. rw (k, o, b, c, t, l) (same refl a refl)))
        (λ t. rw (k, o, b, c, t) (same refl a refl))

    version_response : f.frame_type ≡ Types.version_response → Goal
    unfolding step_of source_of
    version_response k n =
        by f.from
        (λ t. by (is_text f.payload) (λ l. rw (k, o, b, c, t, l) (same refl a refl)) (λ l. rw (k, o, b, c, t, l) (same refl a refl)))
        (λ t. rw (k, o, b, c, t) (same refl a refl))

    enumeration-end : f.frame_type ≡ Types.enumeration_end_response → Goal
    unfolding step_of source_of
    enumeration-end k n = by f.from (λ t. rw (k, o, b, c, t) (same refl a refl)) (λ t. rw (k, o, b, c, t) (same refl a refl))

    abbrev at : (t : ℕ) → (f.frame_type ≡ t → Goal) → (eqb f.frame_type t ≡ false → Goal) → Goal
    at t hit miss = by (eqb f.frame_type t) (λ e. hit (eqb-true f.frame_type t e)) miss

    -- the eighteen types one by one, and then the rest, which is unhandled
    by-type : Goal
    unfolding step_of source_of counter_of
    by-type =
        at Types.receive_request receive_request
        (λ n1. at Types.receive_response receive_response
        (λ n2. at Types.command_request command_request
        (λ n3. at Types.command_response command_response
        (λ n4. at Types.enumeration_start_request enumeration-start
        (λ n5. at Types.enumeration_response enumeration_response
        (λ n6. at Types.identify_response identify_response
        (λ n7. at Types.version_response version_response
        (λ n8. at Types.enumeration_end_response enumeration-end
        (λ n9. at Types.ping_request (λ k n. rw (k, o, b, c) (same refl a refl))
        (λ n10. at Types.ping_response (λ k n. rw (k, o, b, c) (same refl a refl))
        (λ n11. at Types.enumeration_start_response (λ k n. rw (k, o, b, c) (same refl a refl))
        (λ n12. at Types.enumeration_request (λ k n. rw (k, o, b, c) (same refl a refl))
        (λ n13. at Types.assign_gateway_id_request (λ k n. rw (k, o, b, c) (same refl a refl))
        (λ n14. at Types.assign_gateway_id_response (λ k n. rw (k, o, b, c) (same refl a refl))
        (λ n15. at Types.identify_request (λ k n. rw (k, o, b, c) (same refl a refl))
        (λ n16. at Types.version_request (λ k n. rw (k, o, b, c) (same refl a refl))
        (λ n17. at Types.enumeration_end_request (λ k n. rw (k, o, b, c) (same refl a refl))
        (λ n18 n. rw (o, b, c, n1, n2, n3, n4, n5, n6, n7, n8, n9, n10, n11, n12, n13, n14, n15, n16, n17, n18) (same refl a refl)))))))))))))))))))

  -- 12 and 32 are among the added refusals; at an ID that 13 refuses nothing changes
  no-12 : is_over_limit s.tables.commands ≡ true → Goal
  unfolding step_of
  no-12 o n = untrue (rw o at n)

  no-13 : is_over_limit s.tables.commands ≡ false → ltb 0x7fff f.gateway ≡ true → Goal
  unfolding step_of source_of
  no-13 o b n = rw (o, b) (same refl a refl)

  no-32 : is_over_limit s.tables.commands ≡ false → ltb 0x7fff f.gateway ≡ false → ltb 250 (length f.payload) ≡ true → Goal
  unfolding step_of
  no-32 o b c n = untrue (rw (o, b, c) at n)

  -- one frame: event, tables and counters are the source's, unless the refusal is an added one
  pub same_step : Goal
  same_step =
      by (is_over_limit s.tables.commands) no-12
      (λ o. by (ltb 0x7fff f.gateway) (no-13 o)
      (λ b. by (ltb 250 (length f.payload)) (no-32 o b)
      (λ c. by-type o b c)))

no-entries : {A : Type 0} (n : ℕ) (values : ℕ → A) (k : ℕ) → value_at (places_of (replicate n 0) values) k ≡ none
no-entries {A} n values k = by (is_held (places_of (replicate n 0) values) k) (λ h. absurd (let z : ◌≡◌ {A = ℕ} 0 1 = cc (holder-holds (places_of (replicate n 0) values) k h, all-free-at n values (holder (places_of (replicate n 0) values) k) k) in omega arith)) (λ h. value_at-unheld (places_of (replicate n 0) values) k h)

agree_fresh : Agree (state_of fresh).tables no_entries
unfolding state_of
agree_fresh = record { numbers = λ k. no-entries 32 _ k; sequences = λ k. no-entries 32 _ k; commands = λ k. no-entries 64 _ k }

count-fresh : (state_of fresh).counters ≡ fresh_source.counters
unfolding state_of
count-fresh = refl

-- a reset that 12 does not refuse clears the counters alone
module _ (s : State) (m : Maps) (a : Agree s.tables m) (n : is_added (reset_of s).outcome ≡ false) where
  agree-reset : Agree (reset_of s).state.tables m
  unfolding reset_of
  agree-reset = by (is_over_limit s.tables.commands) (λ e. rw e a) (λ e. rw e a)

  count-reset : (reset_of s).state.counters ≡ replicate counter_count 0
  unfolding reset_of
  count-reset = by (is_over_limit s.tables.commands) (λ e. untrue (rw e at n)) (λ e. rw e)

-- what holds of a state and the source's receiver that the same inputs lead to
pub record Alike (s : State) (x : Source) : Type 0 where
  pub distinct : AllDistinct s.tables
  pub tables : Agree s.tables x.maps
  pub counters : s.counters ≡ x.counters

-- a frame keeps it, and the event is what the sink is told
module _ (s : State) (x : Source) (h : Alike s x) (f : Frame) (n : is_added (step_of s f).outcome ≡ false) where
  pub same_source : Same (step_of s f) (source_of x f)
  same_source =
      subst (λ (cs : List ℕ). Same (step_of s f) (source_of (record { maps = x.maps; counters = cs }) f)) h.counters
      (same_step s x.maps f h.distinct h.tables n)

-- from fresh, up to the first added refusal, no key stands at two places, every look-up is that of the source's maps, and every counter the source's
pub agree-follows : {s : State} {x : Source} → Follows s x → Alike s x
agree-follows start = record { distinct = distinct-reached reached.start; tables = agree_fresh; counters = count-fresh }
agree-follows (on {s} {x} r (frame f) n) =
    let h = agree-follows r in
    let e = same_source s x h f n in
    record { distinct = distinct-step s f h.distinct; tables = e.tables; counters = e.counters }
agree-follows (on {s} {x} r reset n) =
    let h = agree-follows r in
    record { distinct = distinct-reset s h.distinct; tables = agree-reset s x.maps h.tables n; counters = count-reset s x.maps h.tables n }

-- .. and the event of a frame is what the source tells its sink of it
pub events-follow : {s : State} {x : Source} → Follows s x → (f : Frame) → is_added (step_of s f).outcome ≡ false → event_of (step_of s f).outcome ≡ (source_of x f).told
events-follow {s} {x} r f n = (same_source s x (agree-follows r) f n).told
