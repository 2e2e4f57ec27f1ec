-- A machine that takes a byte at a time and gives a list of events: over a run these are the events of the pieces of the reading,
-- in order (`ledger`), and it comes to rest where they leave off (`rests`). A device of the proofs: the receiver is compared with it. Assumes nothing.
use mathlib.Core.Path.{◌≡◌, refl, sym, ◌∙◌, ap}
use Prim.Native.Nat.{ℕ}
use mathlib.Core.Bool.{Bool, true, false, cond}
use mathlib.Core.List.{List, [], ◌∷◌, ◌++◌, append_assoc, append-nil, map-append}
use mathlib.Core.Option.{Option, none, some}
use lib.ListN.{length, length-map}
use lib.Dec.{ltb}
use Rattle.escaping.specs.Escapes.{Meaning, datum, opener, closer, neither, meaning, unescaped_of}
use Rattle.reading.specs.Counters.{Counter, openings, giants, escaped, broken, noise}
use Rattle.reading.specs.Grammar.{Rules, Line, idle, noisy, Unit, pair, Opening, Ending, closed, broken_by, giant_by, escaped_by, unfinished, unfinished-7e, whole, TailEnd, at-closer, at-opener, runs-out, runs-out-7e, Piece, outside_byte, outside_pair, outside_7e, frame, tail, is7e, leads_to, is_noise, Reading}
use Rattle.reading.specs.Counts.{Verdict, verdict, Rest, out, out_7e, inside, inside_7e, over, over-7e, rest_of, left_from, left, value, body_in}
use Rattle.reading.proofs.Reader.{Hand, clear, clear-7e, in_frame, in-frame-7e, due, in_tail, in-tail-7e, led, finish, step, pieces}
use Rattle.reading.proofs.Unique.{unique}
use Rattle.reading.proofs.Exists.{exists}

-- one is counted; a frame is closed, with its verdict and body
pub data Event : Type 0 where
  counted : Counter → Event
  closes : Verdict → List ℕ → Event

-- a step: its events, and where it comes to rest
pub record Beat : Type 0 where
  pub events : List Event
  pub to : Rest

abbrev pub silent : Rest → Beat
silent r = record { events = []; to = r }

abbrev pub counts-one : Counter → Rest → Beat
counts-one k r = record { events = counted k ∷ []; to = r }

abbrev pub noises : Bool → List Event
noises true = counted noise ∷ []
noises false = []

abbrev pub beat_pair_outside : Meaning → Beat
beat_pair_outside opener = counts-one openings (inside [])
beat_pair_outside datum = counts-one noise (out noisy)
beat_pair_outside closer = counts-one noise (out noisy)
beat_pair_outside neither = counts-one noise (out noisy)

abbrev pub beat_pair_in_tail : Meaning → Beat
beat_pair_in_tail opener = counts-one openings (inside [])
beat_pair_in_tail closer = silent (out idle)
beat_pair_in_tail datum = silent over
beat_pair_in_tail neither = silent over

module _ (rules : Rules) (check : List ℕ → ℕ) where
  abbrev pub beat_pair_inside : List ℕ → ℕ → Meaning → Beat
  beat_pair_inside body b datum = cond (ltb (length body) rules.limit) (silent (inside (body ++ (unescaped_of b ∷ [])))) (counts-one escaped over-7e)
  beat_pair_inside body b closer = record { events = closes (verdict check body) body ∷ []; to = out idle }
  beat_pair_inside body b opener = record { events = counted broken ∷ counted noise ∷ []; to = out noisy }
  beat_pair_inside body b neither = record { events = counted broken ∷ counted noise ∷ []; to = out noisy }

  abbrev pub beat : Rest → ℕ → Beat
  beat (out l) b = cond (is7e b) (silent out_7e) (record { events = noises (is_noise l (leads_to b)); to = out (leads_to b) })
  beat out_7e b = beat_pair_outside (meaning b)
  beat (inside body) b = cond (is7e b) (silent (inside_7e body)) (cond (ltb (length body) rules.limit) (silent (inside (body ++ (b ∷ [])))) (counts-one giants over))
  beat (inside_7e body) b = beat_pair_inside body b (meaning b)
  beat over b = cond (is7e b) (silent over-7e) (silent over)
  beat over-7e b = beat_pair_in_tail (meaning b)

  -- the events of a run, and where it comes to rest
  unfoldable pub run : List ℕ → Rest → List Event
  run [] r = []
  run (b ∷ bs) r = (beat r b).events ++ run bs (beat r b).to

  unfoldable pub reach : List ℕ → Rest → Rest
  reach [] r = r
  reach (b ∷ bs) r = reach bs (beat r b).to

  -- the events of the pieces
  abbrev pub events_of_ending : List ℕ → Ending → List Event
  events_of_ending body closed = closes (verdict check body) body ∷ []
  events_of_ending body (broken_by b) = counted broken ∷ counted noise ∷ []
  events_of_ending body (giant_by b) = counted giants ∷ []
  events_of_ending body (escaped_by b) = counted escaped ∷ []
  events_of_ending body unfinished = []
  events_of_ending body unfinished-7e = []

  abbrev pub events_of : Piece → List Event
  events_of (outside_byte is b) = noises is
  events_of (outside_pair b) = counted noise ∷ []
  events_of outside_7e = []
  events_of (frame o us e) = counted openings ∷ events_of_ending (body_in us) e
  events_of (tail s us e) = []

  unfoldable pub events_in : List Piece → List Event
  events_in [] = []
  events_in (p ∷ ps) = events_of p ++ events_in ps

  pub events_in-append : (ps qs : List Piece) → events_in (ps ++ qs) ≡ events_in ps ++ events_in qs
  unfolding events_in
  events_in-append [] qs = refl
  events_in-append (p ∷ ps) qs = rw (events_in-append ps qs, append_assoc (events_of p) (events_in ps) (events_in qs))

  left_from-append : (r : Rest) (ps qs : List Piece) → left_from r (ps ++ qs) ≡ left_from (left_from r ps) qs
  unfolding left_from
  left_from-append r [] qs = refl
  left_from-append r (p ∷ ps) qs = left_from-append (rest_of p) ps qs

  -- THE READER AND THE MACHINE GO TOGETHER

  -- where the machine rests while the reader has this in hand: the body, however it was written
  abbrev rest_with : Hand → Rest
  rest_with (clear l) = out l
  rest_with clear-7e = out_7e
  rest_with (in_frame o us) = inside (body_in us)
  rest_with (in-frame-7e o us) = inside_7e (body_in us)
  rest_with due = over-7e
  rest_with (in_tail l us) = over
  rest_with (in-tail-7e l us) = over-7e

  -- where the pieces before the one in hand left off
  abbrev since : Hand → Rest → Rest
  since (clear l) r = out l
  since clear-7e r = r
  since (in_frame o us) r = r
  since (in-frame-7e o us) r = r
  since due r = r
  since (in_tail l us) r = r
  since (in-tail-7e l us) r = r

  -- a tail, however led, has no event and leaves off by its end
  events_of-led : (l : Option ℕ) (us : List Unit) (e : TailEnd) → events_of (led l us e) ≡ []
  events_of-led none us e = refl
  events_of-led (some b) us e = refl

  rest_of-led : (l : Option ℕ) (us : List Unit) (e : TailEnd) → rest_of (led l us e) ≡ rest_of (tail whole us e)
  rest_of-led none us e = refl
  rest_of-led (some b) us e = refl

  -- one step: the rest, the events (those of the piece in hand came when it was begun), and what the pieces leave
  record Together (h : Hand) (b : ℕ) : Type 0 where
    to_same : (beat (rest_with h) b).to ≡ rest_with (step rules h b).hand
    events-same : events_in (finish h) ++ (beat (rest_with h) b).events ≡ events_in (step rules h b).done ++ events_in (finish (step rules h b).hand)
    left-same : (r : Rest) → since (step rules h b).hand (left_from (since h r) (step rules h b).done) ≡ left_from (since h r) (step rules h b).done

  finish-left : (h : Hand) (r : Rest) → left_from (since h r) (finish h) ≡ rest_with h
  unfolding left_from
  finish-left (clear l) r = refl
  finish-left clear-7e r = refl
  finish-left (in_frame o us) r = refl
  finish-left (in-frame-7e o us) r = refl
  finish-left due r = refl
  finish-left (in_tail l us) r = rest_of-led l us runs-out
  finish-left (in-tail-7e l us) r = rest_of-led l us runs-out-7e

  together-clear : (l : Line) (b : ℕ) (t : Bool) → is7e b ≡ t → Together (clear l) b
  unfolding events_in left_from
  together-clear l b true e = record { to_same = rw e; events-same = rw e; left-same = λ r. rw e }
  together-clear l b false e = record { to_same = rw e; events-same = rw e (simp append-nil); left-same = λ r. rw e }

  together-clear-7e : (b : ℕ) (m : Meaning) → meaning b ≡ m → Together clear-7e b
  unfolding events_in left_from
  together-clear-7e b opener e = record { to_same = rw e; events-same = rw e; left-same = λ r. rw e }
  together-clear-7e b datum e = record { to_same = rw e; events-same = rw e; left-same = λ r. rw e }
  together-clear-7e b closer e = record { to_same = rw e; events-same = rw e; left-same = λ r. rw e }
  together-clear-7e b neither e = record { to_same = rw e; events-same = rw e; left-same = λ r. rw e }

  together-frame : (o : Opening) (us : List Unit) (b : ℕ) (t u : Bool) → is7e b ≡ t → ltb (length us) rules.limit ≡ u → Together (in_frame o us) b
  unfolding events_in left_from
  together-frame o us b true u e f = record { to_same = rw e; events-same = rw e; left-same = λ r. rw e }
  together-frame o us b false true e f =
      record { to_same = rw (e, length-map us value, f) (rw (map-append value)); events-same = rw (e, length-map us value, f); left-same = λ r. rw (e, f) }
  together-frame o us b false false e f =
      record { to_same = rw (e, length-map us value, f); events-same = rw (e, length-map us value, f); left-same = λ r. rw (e, f) }

  together-frame-7e : (o : Opening) (us : List Unit) (b : ℕ) (m : Meaning) (u : Bool) → meaning b ≡ m → ltb (length us) rules.limit ≡ u → Together (in-frame-7e o us) b
  unfolding events_in left_from
  together-frame-7e o us b datum true e f =
      record { to_same = rw (e, length-map us value, f) (rw (map-append value)); events-same = rw (e, length-map us value, f); left-same = λ r. rw (e, f) }
  together-frame-7e o us b datum false e f =
      record { to_same = rw (e, length-map us value, f); events-same = rw (e, length-map us value, f); left-same = λ r. rw (e, f) }
  together-frame-7e o us b opener u e f = record { to_same = rw e; events-same = rw e; left-same = λ r. rw e }
  together-frame-7e o us b closer u e f = record { to_same = rw e; events-same = rw e; left-same = λ r. rw e }
  together-frame-7e o us b neither u e f = record { to_same = rw e; events-same = rw e; left-same = λ r. rw e }

  together-due : (b : ℕ) (m : Meaning) → meaning b ≡ m → Together due b
  unfolding events_in left_from
  together-due b opener e = record { to_same = rw e; events-same = rw e; left-same = λ r. rw e }
  together-due b datum e = record { to_same = rw e; events-same = rw e; left-same = λ r. rw e }
  together-due b closer e = record { to_same = rw e; events-same = rw e; left-same = λ r. rw e }
  together-due b neither e = record { to_same = rw e; events-same = rw e; left-same = λ r. rw e }

  together-tail : (l : Option ℕ) (us : List Unit) (b : ℕ) (t : Bool) → is7e b ≡ t → Together (in_tail l us) b
  unfolding events_in left_from
  together-tail none us b true e = record { to_same = rw e; events-same = rw e; left-same = λ r. rw e }
  together-tail none us b false e = record { to_same = rw e; events-same = rw e; left-same = λ r. rw e }
  together-tail (some c) us b true e = record { to_same = rw e; events-same = rw e; left-same = λ r. rw e }
  together-tail (some c) us b false e = record { to_same = rw e; events-same = rw e; left-same = λ r. rw e }

  together-tail-7e : (l : Option ℕ) (us : List Unit) (b : ℕ) (m : Meaning) → meaning b ≡ m → Together (in-tail-7e l us) b
  unfolding events_in left_from
  together-tail-7e l us b opener e =
      record { to_same = rw e; events-same = rw (e, events_of-led l us runs-out-7e, events_of-led l us at-opener); left-same = λ r. rw e }
  together-tail-7e l us b closer e =
      record { to_same = rw e; events-same = rw (e, events_of-led l us runs-out-7e, events_of-led l us at-closer); left-same = λ r. rw (e, rest_of-led l us at-closer) }
  together-tail-7e l us b datum e =
      record { to_same = rw e; events-same = rw (e, events_of-led l us runs-out-7e, events_of-led l (us ++ (pair b ∷ [])) runs-out); left-same = λ r. rw e }
  together-tail-7e l us b neither e =
      record { to_same = rw e; events-same = rw (e, events_of-led l us runs-out-7e, events_of-led l (us ++ (pair b ∷ [])) runs-out); left-same = λ r. rw e }

  together : (h : Hand) (b : ℕ) → Together h b
  together (clear l) b = together-clear l b (is7e b) refl
  together clear-7e b = together-clear-7e b (meaning b) refl
  together (in_frame o us) b = together-frame o us b (is7e b) (ltb (length us) rules.limit) refl refl
  together (in-frame-7e o us) b = together-frame-7e o us b (meaning b) (ltb (length us) rules.limit) refl refl
  together due b = together-due b (meaning b) refl
  together (in_tail l us) b = together-tail l us b (is7e b) refl
  together (in-tail-7e l us) b = together-tail-7e l us b (meaning b) refl

  -- the events of a run are those of the pieces found
  run-pieces : (bs : List ℕ) (h : Hand) → events_in (finish h) ++ run bs (rest_with h) ≡ events_in (pieces rules bs h)
  unfolding run pieces
  run-pieces [] h = append-nil (events_in (finish h))
  run-pieces (b ∷ bs) h =
      let k : Hand = (step rules h b).hand in
      let d : List Piece = (step rules h b).done in
      let s : Together h b = together h b in
      let ih : events_in (finish k) ++ run bs (rest_with k) ≡ events_in (pieces rules bs k) = run-pieces bs k in
      rw (s.to_same, ← append_assoc, s.events-same, append_assoc, ih, events_in-append d (pieces rules bs k))

  -- and it comes to rest where they leave off
  reach-pieces : (bs : List ℕ) (h : Hand) (r : Rest) → left_from (since h r) (pieces rules bs h) ≡ reach bs (rest_with h)
  unfolding reach pieces
  reach-pieces [] h r = finish-left h r
  reach-pieces (b ∷ bs) h r =
      let k : Hand = (step rules h b).hand in
      let d : List Piece = (step rules h b).done in
      let s : Together h b = together h b in
      let ih : left_from (since k (left_from (since h r) d)) (pieces rules bs k) ≡ reach bs (rest_with k) = reach-pieces bs k (left_from (since h r) d) in
      left_from-append (since h r) d (pieces rules bs k) ∙ (rw (s.left-same r) at ih) ∙ ap (reach bs) (sym s.to_same)

  -- whatever the reading, the machine's events from fresh are its events
  pub ledger : (bs : List ℕ) (ps : List Piece) → Reading rules bs ps → run bs (out idle) ≡ events_in ps
  unfolding events_in
  ledger bs ps r = run-pieces bs (clear idle) ∙ ap events_in (unique rules bs _ ps (exists rules bs) r)

  -- and it comes to rest where its pieces leave off
  pub rests : (bs : List ℕ) (ps : List Piece) → Reading rules bs ps → reach bs (out idle) ≡ left ps
  rests bs ps r = sym (reach-pieces bs (clear idle) (out idle)) ∙ ap left (unique rules bs _ ps (exists rules bs) r)

  -- CUTS: a run over h and then s is a run over h ++ s

  pub run-append : (h s : List ℕ) (r : Rest) → run (h ++ s) r ≡ run h r ++ run s (reach h r)
  unfolding run reach
  run-append [] s r = refl
  run-append (b ∷ h) s r = rw (run-append h s (beat r b).to, append_assoc)

  pub reach-append : (h s : List ℕ) (r : Rest) → reach (h ++ s) r ≡ reach s (reach h r)
  unfolding reach
  reach-append [] s r = refl
  reach-append (b ∷ h) s r = reach-append h s (beat r b).to
