-- What a writer of records hands back and leaves in the buffer: of one record what its encoder does, and of a slot's all that is laid down.
-- Assumes nothing.
use mathlib.Core.Path.{◌≡◌, refl, sym, ◌∙◌, ap, subst}
use Prim.Native.Nat.{ℕ, ◌+◌, ◌-◌, ◌≤◌, ◌<◌}
use mathlib.Core.Bool.{Bool, true, false, cond, not, ◌&&◌}
use mathlib.Core.List.{List, [], ◌∷◌, ◌++◌, append_assoc, append-nil}
use mathlib.Core.Option.{none}
use native.Mathlib.Omega.{arith}
use lib.ListN.{length, take, drop, length-append, length-drop}
use lib.Seq.{take_all, take_at, drop_at, length-take-le}
use Rattle.std.specs.Prelude.{min}
use Rattle.std.proofs.lemmas.List.{drop_min}
use lib.Dec.{ltb, leb}
use borrow.Author.Tests.{lt-ltb, le-ltb, ltb-false, le-leb, lt-leb, leb-true, leb-false}
use Rattle.laws.specs.Bytes.{Bytes, laid_over, laid_if}
use Rattle.laws.specs.Handed.{Handed, refused, value}
use Rattle.laws.proofs.Lay.{length-laid_over, laid_over-append, laid_over-take}
use Rattle.network.specs.Split.{found_packet, found_at}
use Rattle.sound_record.specs.Record.{written, sound_at}
use Rattle.event_record.specs.Event.{record_of}
use Rattle.event_record.specs.Event as kind
use Rattle.event_record.specs.Handed.{framed_handed, record_handed, record_bytes}
use Rattle.event_record.proofs.Written.{length-written}
use Rattle.event_record.proofs.Fit.{fits-counter}
use Rattle.transport_receiver.specs.Step.{slot_counter, event_of}
use Rattle.event_log.specs.Records.{Entry, entry, records_of, records_in, bytes_of, any_over, any_unsound, records_handed, records_bytes, answer_handed, answer_bytes}
use Rattle.event_log.specs.Answers.{event_in, room_after}
use Rattle.answers.specs.Refusals.{Answer}
use Rattle.transport_receiver.specs.Handed.{refused_by}
use Rattle.std.specs.Prelude as std
use Rattle.std.specs.Prelude.{Option, None, Some, Err}
use Rattle.event_record.specs.declared.RecordError.{RecordError}
use Rattle.event_record.specs.declared.RecordError.TheVariants.{NoRoom}
use Rattle.laws.proofs.Cases.{by}
use Rattle.event_log.proofs.Areas.{area_bytes, area_space, length-area, length_found, bytes-packet, space-packet, none_over, none-unsound, sound-found}

pub length_rest : (out : List ℕ) (to : ℕ) → length (take (length out - to) (drop to out)) ≡ length out - to
length_rest out to = length-take-le (length out - to) (drop to out) (simp length-drop (omega arith))

-- what follows the first bytes, where a slice starts behind as many of them as there are
pub rest-of : (k n : ℕ) (s : List ℕ) → n ≡ min k (length s) → take (length s - n) (drop n s) ≡ drop k s
rest-of k n s e = take_all (length s - n) (drop n s) (simp length-drop (omega arith)) ∙ ap (λ (m : ℕ). drop m s) e ∙ drop_min k s

-- a part of a buffer from a place on, as a callee that laid a piece over it leaves it, and the buffer
pub relaid : (r out part : List ℕ) (to : ℕ) → to + length r ≤ length out → part ≡ laid_over r (take (length out - to) (drop to out))
    → take to out ++ (part ++ drop (length out - to) (drop to out)) ≡ take to out ++ laid_over r (drop to out)
relaid r out part to h e =
    let l = length_rest out to in
    rw e (ap (λ (x : List ℕ). take to out ++ x) (laid_over-take r (drop to out) (length out - to) (omega arith)))

-- with more laid down behind the piece, both are laid down
pub laid_more : (r rest out : List ℕ) (to n : ℕ) → n ≡ to + length r → to + length r ≤ length out
    → take n (take to out ++ laid_over r (drop to out)) ++ laid_over rest (drop n (take to out ++ laid_over r (drop to out))) ≡ take to out ++ laid_over (r ++ rest) (drop to out)
laid_more r rest out to n e h =
    let p : List ℕ = take to out ++ r in
    let q : List ℕ = drop (length r) (drop to out) in
    let k : length p ≡ n = length-append (take to out) r ∙ rw (length-take-le to out (omega arith)) (sym e) in
    let s : take to out ++ laid_over r (drop to out) ≡ p ++ q = sym (append_assoc (take to out) r q) in
    rw (s, take_at p q n k, drop_at p q n k)
    (append_assoc (take to out) r (laid_over rest q) ∙ ap (λ (x : List ℕ). take to out ++ x) (laid_over-append r rest (drop to out)))

-- an encoder that refuses nothing lays its record down
pub record_bytes-laid : (g : ℕ) (e : kind.Event) (out : List ℕ) → g ≤ 0x7fff → sound_at written (record_of written g e) ≡ true → length (record_of written g e) ≤ length out
    → record_bytes g e out ≡ laid_over (record_of written g e) out
unfolding framed_handed
record_bytes-laid g e out h s l = rw (le-ltb 0x7fff g h, s, le-ltb (length out) (length (record_of written g e)) l)

-- one turn of `put_packets`: the record of the packet found goes behind those before it
module _ (g : ℕ) (h : g ≤ 0x7fff) (a : List ℕ) (b : Bytes a) (at d e : ℕ) (f : found_at a at ≡ found_packet d e) (out : List ℕ) (to : ℕ) (room : to + area_space (drop at a) ≤ length out)
    (part : List ℕ) (q : part ≡ record_bytes g (kind.packet (take (e - at) (drop at a))) (take (length out - to) (drop to out))) where
  abbrev put : List ℕ
  put = record_of written g (kind.packet (take (e - at) (drop at a)))

  abbrev back : List ℕ
  back = take to out ++ (part ++ drop (length out - to) (drop to out))

  length-put : length put ≡ 6 + (e - at)
  length-put = length-written 7 g (take (e - at) (drop at a)) ∙ ap (λ (n : ℕ). 6 + n) (length_found a at d e f)

  put-laid : back ≡ take to out ++ laid_over put (drop to out)
  put-laid =
      let s = space-packet a at d e f in
      let l = length_rest out to in
      relaid put out part to (omega (arith, length-put))
      (q ∙ record_bytes-laid g (kind.packet (take (e - at) (drop at a))) (take (length out - to) (drop to out)) h (sound-found g h a b at d e f) (omega (arith, length-put)))

  pub length_back : length back ≡ length out
  length_back =
      let s = space-packet a at d e f in
      let l : length (take to out) ≡ to = length-take-le to out (omega arith) in
      rw put-laid (simp (length-append, length-drop) (omega (arith, length-put, l)))

  pub put-more : take (to + 6 + (e - at)) back ++ laid_over (area_bytes g (drop e a)) (drop (to + 6 + (e - at)) back) ≡ take to out ++ laid_over (area_bytes g (drop at a)) (drop to out)
  put-more =
      let s = space-packet a at d e f in
      rw (put-laid, bytes-packet a at d e f g)
      (laid_more put (area_bytes g (drop e a)) out to (to + 6 + (e - at)) (omega (arith, length-put)) (omega (arith, length-put)))

-- 13 of the frame's gateway comes first; else its records decide
pub answer-13 : (g : ℕ) (xs : List Entry) (room : ℕ) → 0x7fff < g → answer_handed g xs room ≡ refused 13
unfolding answer_handed
answer-13 g xs room h = rw (lt-ltb 0x7fff g h)

pub answer-records : (g : ℕ) (xs : List Entry) (room : ℕ) → g ≤ 0x7fff → answer_handed g xs room ≡ records_handed xs room
unfolding answer_handed
answer-records g xs room h = rw (le-ltb 0x7fff g h)

-- what a writer of records hands back and leaves in the buffer
module _ (xs : List Entry) (out : List ℕ) where
  abbrev pub Writes : Handed ℕ → List ℕ → Type 0
  Writes h after = (h ≡ records_handed xs (length out)) × (after ≡ records_bytes xs out)

  pub writes : (h : Handed ℕ) → records_handed xs (length out) ≡ h → Writes h (laid_if h (bytes_of written xs) out)
  writes h e = (sym e, ap (λ (x : Handed ℕ). laid_if x (bytes_of written xs) out) (sym e))

-- the same of a frame of gateway g: 13 of it comes first
module _ (g : ℕ) (xs : List Entry) (out : List ℕ) where
  abbrev pub Gives : Handed ℕ → List ℕ → Type 0
  Gives h after = (h ≡ answer_handed g xs (length out)) × (after ≡ answer_bytes g xs out)

  pub gives-13 : 0x7fff < g → Gives (refused 13) out
  gives-13 h =
      let e = answer-13 g xs (length out) h in
      (sym e, ap (λ (x : Handed ℕ). laid_if x (bytes_of written xs) out) (sym e))

  pub gives : g ≤ 0x7fff → (h : Handed ℕ) (after : List ℕ) → Writes xs out h after → Gives h after
  gives l h after w =
      let e = answer-records g xs (length out) l in
      (w.0 ∙ sym e, w.1 ∙ ap (λ (x : Handed ℕ). laid_if x (bytes_of written xs) out) (sym e))

-- what is handed back as written fits in the room
pub handed-within : (g : ℕ) (xs : List Entry) (room : ℕ) {n : ℕ} → answer_handed g xs room ≡ value n → n ≤ room
unfolding answer_handed records_handed
handed-within g xs room {n} = go (ltb 0x7fff g) (any_over xs) (any_unsound xs) (ltb room (length (bytes_of written xs))) refl
  where
    go : (o a b c : Bool) → ltb room (length (bytes_of written xs)) ≡ c
        → cond o (refused 13) (cond a (refused 13) (cond b (refused 41) (cond c (refused 40) (value (length (bytes_of written xs)))))) ≡ value n → n ≤ room
    go true a b c e f = let z : ◌≡◌ {A = ℕ} 0 1 = cc in absurd (omega arith)
    go false true b c e f = let z : ◌≡◌ {A = ℕ} 0 1 = cc in absurd (omega arith)
    go false false true c e f = let z : ◌≡◌ {A = ℕ} 0 1 = cc in absurd (omega arith)
    go false false false true e f = let z : ◌≡◌ {A = ℕ} 0 1 = cc in absurd (omega arith)
    go false false false false e f = let m : length (bytes_of written xs) ≡ n = cc in omega (arith, ltb-false room (length (bytes_of written xs)) e)

-- `write_event` cites these. No record: nothing is written
pub records_none : (room : ℕ) → records_handed [] room ≡ value 0
unfolding records_handed
records_none room = rw (le-ltb room 0 (omega arith))

-- a refusal has no event
pub event_of_refused : (n : ℕ) (value : Option ℕ) → event_of (refused_by n value) ≡ none
event_of_refused n None = refl
event_of_refused n (Some v) = refl

-- one record: what its encoder hands back
module _ (g : ℕ) (e : kind.Event) where
  pub records_one : (room : ℕ) → records_handed (entry g e ∷ []) room ≡ record_handed g e room
  unfolding records_handed framed_handed
  records_one room = rw append-nil (go (ltb 0x7fff g) (sound_at written (record_of written g e)) (refused 13) (refused 41) (cond (ltb room (length (record_of written g e))) (refused 40) (value (length (record_of written g e)))))
    where
      go : (a b : Bool) (x y z : Handed ℕ) → cond (cond a true false) x (cond (not (b && true)) y z) ≡ cond a x (cond (not b) y z)
      go true b x y z = refl
      go false true x y z = refl
      go false false x y z = refl

  pub bytes_one : (out : List ℕ) → records_bytes (entry g e ∷ []) out ≡ record_bytes g e out
  bytes_one out = rw (records_one (length out), append-nil)

-- a receive response's records: 13 of the gateway, never 41, 40 of all
pub length-slot : (g n : ℕ) (m : Bool) (a : List ℕ) → length (bytes_of written (records_of (slot_counter g n m a))) ≡ 9 + area_space a
length-slot g n m a =
    length-append (record_of written g (kind.slot_counter n m)) (area_bytes g a)
    ∙ rw (length-area g a, length-written 6 g (kind.body_of written (kind.slot_counter n m)))

module _ (g n : ℕ) (m : Bool) (a out : List ℕ) where
  abbrev slot : List Entry
  slot = records_of (slot_counter g n m a)

  abbrev first : List ℕ
  first = record_of written g (kind.slot_counter n m)

  pub slot-13 : 0x7fff < g → Writes slot out (refused 13) out
  unfolding records_handed
  slot-13 h = writes slot out (refused 13) (rw (lt-ltb 0x7fff g h))

  module _ (h : g ≤ 0x7fff) (b : Bytes a) where
    slot-room : records_handed slot (length out) ≡ cond (ltb (length out) (9 + area_space a)) (refused 40) (value (9 + area_space a))
    unfolding records_handed
    slot-room = rw (le-ltb 0x7fff g h, none_over g h _, fits-counter g h n m, none-unsound g h a b, length-slot g n m a)

    pub slot-40 : length out < 9 + area_space a → Writes slot out (refused 40) out
    slot-40 l = writes slot out (refused 40) (slot-room ∙ rw (lt-ltb (length out) (9 + area_space a) l))

    -- kind 6 laid down, and the packets' records in the part behind it
    pub slot-written : 9 + area_space a ≤ length out → (k : ℕ) → k ≡ 9 + area_space a
        → (d part after : List ℕ) → d ≡ record_bytes g (kind.slot_counter n m) out → part ≡ laid_over (area_bytes g a) (take (length d - 9) (drop 9 d))
        → after ≡ take 9 d ++ (part ++ drop (length d - 9) (drop 9 d)) → Writes slot out (value k) after
    slot-written l k e d part after p q s =
        let x = area_bytes g a in
        let f : length first ≡ 9 = length-written 6 g (kind.body_of written (kind.slot_counter n m)) in
        let i : d ≡ laid_over first out = p ∙ record_bytes-laid g (kind.slot_counter n m) out h (fits-counter g h n m) (omega arith) in
        let j : length d ≡ length out = ap length i ∙ length-laid_over first out (omega arith) in
        let t : take 9 d ≡ first = rw i (take_at first (drop (length first) out) 9 f) in
        let u : drop 9 d ≡ drop (length first) out = rw i (drop_at first (drop (length first) out) 9 f) in
        let v : take 9 d ++ (part ++ drop (length d - 9) (drop 9 d)) ≡ take 9 d ++ laid_over x (drop 9 d) = relaid x d part 9 (omega (arith, length-area g a)) q in
        let w : after ≡ laid_over (bytes_of written slot) out = s ∙ v ∙ rw (t, u) (laid_over-append first x out) in
        let y = writes slot out (value (9 + area_space a)) (slot-room ∙ rw (le-ltb (length out) (9 + area_space a) l)) in
        (rw e y.0, w ∙ y.1)

-- the room that is left, and the room that there is not
pub room_after-left : (space room left : ℕ) → room_after space room ≡ Some left → (space ≤ room) × (left ≡ room - space)
unfolding room_after
room_after-left space room left = by (leb space room) (λ t. rw t (λ f. let k : room - space ≡ left = cc in (leb-true space room t, sym k))) (λ t. rw t (λ f. let z : ◌≡◌ {A = ℕ} 0 1 = cc in absurd (omega arith)))

pub room_after-short : (space room : ℕ) → room_after space room ≡ None → room < space
unfolding room_after
room_after-short space room = by (leb space room) (λ t. rw t (λ f. let z : ◌≡◌ {A = ℕ} 0 1 = cc in absurd (omega arith))) (λ t f. leb-false space room t)

-- with no room left a writer refuses by 40
pub refused_no_room : (o : std.Option ℕ) (e : RecordError) → ◌≡◌ {A = std.Result ℕ RecordError} (Err e) (std.ok_or o NoRoom) → o ≡ None → e ≡ NoRoom
refused_no_room o e f n = let g : ◌≡◌ {A = std.Result ℕ RecordError} (Err e) (Err NoRoom) = rw n at f in cc

pub room_after-fits : (space room left : ℕ) → room ≡ left + space → Some left ≡ room_after space room
unfolding room_after
room_after-fits space room left e = let k : room - space ≡ left = omega arith in rw (le-leb space room (omega arith), k)

pub room_after-narrow : (space room : ℕ) → room < space → None ≡ room_after space room
unfolding room_after
room_after-narrow space room h = rw (lt-leb space room h)

-- `write` cites these: the gateway of its address
pub gives-refused : (g i : ℕ) (xs : List Entry) (out : List ℕ) → i ≡ g → 0x7fff < i → Gives g xs out (refused 13) out
gives-refused g i xs out x h = gives-13 g xs out (omega arith)

pub gives-said : (pool p out : List ℕ) (g i : ℕ) (a : Answer) → i ≡ g → i ≤ 0x7fff → (h : Handed ℕ) (after : List ℕ)
    → Writes (records_in (event_in pool i p a)) out h after → Gives g (records_in (event_in pool g p a)) out h after
gives-said pool p out g i a x l h after w =
    subst (λ (k : ℕ). Gives k (records_in (event_in pool k p a)) out h after) x (gives i (records_in (event_in pool i p a)) out l h after w)
