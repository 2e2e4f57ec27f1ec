-- The books of a reading: counts of events are counts of pieces, the bodies handed out are the sound ones, openings balance endings
-- (`balance`), also since a reset (`balance-since`), and no count is more than the bytes (`most`). Assumes nothing.
use mathlib.Core.Path.{◌≡◌, refl, sym, ◌∙◌, ap}
use Prim.Native.Nat.{ℕ, ◌+◌, ◌≤◌}
use mathlib.Core.Bool.{Bool, true, false, ◌&&◌, ◌||◌}
use mathlib.Core.List.{List, [], ◌∷◌, ◌++◌}
use native.Mathlib.Omega.{arith}
use lib.ListN.{length}
use lib.Dec.{eqb, ltb}
use borrow.Author.Tests.{eqb-true}
use Rattle.escaping.specs.Escapes.{Meaning, datum, opener, closer, neither, meaning}
use Rattle.reading.specs.Counters.{Counter, openings, frames, runts, checksums, giants, escaped, broken, noise, index_of, same}
use Rattle.reading.specs.Grammar.{Rules, Line, idle, Unit, Opening, Ending, closed, broken_by, giant_by, escaped_by, unfinished, unfinished-7e, Piece, outside_byte, outside_pair, outside_7e, frame, tail, is7e, leads_to, is_noise, Reading}
use Rattle.reading.specs.Counts.{Verdict, runt, checksum, sound, verdict, counter_of, Rest, out, out_7e, inside, inside_7e, over, over-7e, left, body_in, one, counts, count, endings, body_if, sound_in, sound_bodies, open_in, count_since, endings_since}
use Rattle.reading.proofs.Machine.{Event, counted, closes, noises, beat, run, reach, events_of, events_in, ledger, rests, run-append, reach-append}

-- COUNTS OF EVENTS

abbrev pub counter_of_event : Event → Counter
counter_of_event (counted k) = k
counter_of_event (closes v body) = counter_of v

unfoldable pub tally : Counter → List Event → ℕ
tally k [] = 0
tally k (e ∷ es) = one (same k (counter_of_event e)) + tally k es

pub tally-append : (k : Counter) (es fs : List Event) → tally k (es ++ fs) ≡ tally k es + tally k fs
unfolding tally
tally-append k [] fs = omega arith
tally-append k (e ∷ es) fs = rw (tally-append k es fs) (omega arith)

-- the bodies of the frames that close soundly
unfoldable pub bodies : List Event → List (List ℕ)
bodies [] = []
bodies (counted k ∷ es) = bodies es
bodies (closes runt body ∷ es) = bodies es
bodies (closes checksum body ∷ es) = bodies es
bodies (closes sound body ∷ es) = body ∷ bodies es

pub bodies-append : (es fs : List Event) → bodies (es ++ fs) ≡ bodies es ++ bodies fs
unfolding bodies
bodies-append [] fs = refl
bodies-append (counted k ∷ es) fs = bodies-append es fs
bodies-append (closes runt body ∷ es) fs = bodies-append es fs
bodies-append (closes checksum body ∷ es) fs = bodies-append es fs
bodies-append (closes sound body ∷ es) fs = ap (λ l. body ∷ l) (bodies-append es fs)

-- of two tests against different numbers at most one is met, and so of three
two : (n i j : ℕ) → (i ≡ j → ⊥) → one (eqb n i) + (one (eqb n j) + 0) ≡ one (eqb n i || eqb n j)
two n i j d = go (eqb n i) (eqb n j) refl refl
  where
    go : (a b : Bool) → eqb n i ≡ a → eqb n j ≡ b → one a + (one b + 0) ≡ one (a || b)
    go true true e f = let x : n ≡ i = eqb-true n i e in let y : n ≡ j = eqb-true n j f in omega (arith, d (sym x ∙ y))
    go true false e f = refl
    go false true e f = refl
    go false false e f = refl

one-most : (b : Bool) → one b ≤ 1
one-most true = omega arith
one-most false = omega arith

three : (n i j l : ℕ) → (i ≡ j → ⊥) → (i ≡ l → ⊥) → (j ≡ l → ⊥) → one (eqb n i) + (one (eqb n j) + (one (eqb n l) + 0)) ≡ one (eqb n i || (eqb n j || eqb n l))
three n i j l d e f = go (eqb n i) refl
  where
    go : (b : Bool) → eqb n i ≡ b → one b + (one (eqb n j) + (one (eqb n l) + 0)) ≡ one (b || (eqb n j || eqb n l))
    go true g = omega (arith, two n i j d, two n i l e, one-most (eqb n i || eqb n j), one-most (eqb n i || eqb n l), ap one g)
    go false g = omega (arith, two n j l f)

plus-zero : (b : Bool) → one b + 0 ≡ one b
plus-zero b = omega arith

or-false : (b : Bool) → b ≡ (b || false)
or-false true = refl
or-false false = refl

and-true : (b : Bool) → b ≡ (b && true)
and-true true = refl
and-true false = refl

and-false : (b : Bool) → false ≡ (b && false)
and-false true = refl
and-false false = refl

closed-tally : (k : Counter) (v : Verdict) → one (same k openings) + (one (same k (counter_of v)) + 0) ≡ one (same k openings || same k (counter_of v))
closed-tally k runt = two (index_of k) 0 2 (λ e. omega arith)
closed-tally k checksum = two (index_of k) 0 3 (λ e. omega arith)
closed-tally k sound = two (index_of k) 0 1 (λ e. omega arith)

module _ (rules : Rules) (check : List ℕ → ℕ) where
  frame-tally : (k : Counter) (o : Opening) (us : List Unit) (e : Ending) → tally k (events_of rules check (frame o us e)) ≡ one (counts check k (frame o us e))
  unfolding tally
  frame-tally k o us closed = closed-tally k (verdict check (body_in us))
  frame-tally k o us (broken_by b) = three (index_of k) 0 6 7 (λ e. omega arith) (λ e. omega arith) (λ e. omega arith)
  frame-tally k o us (giant_by b) = two (index_of k) 0 4 (λ e. omega arith)
  frame-tally k o us (escaped_by b) = two (index_of k) 0 5 (λ e. omega arith)
  frame-tally k o us unfinished = plus-zero (same k openings) ∙ ap one (or-false (same k openings))
  frame-tally k o us unfinished-7e = plus-zero (same k openings) ∙ ap one (or-false (same k openings))

  piece-tally : (k : Counter) (p : Piece) → tally k (events_of rules check p) ≡ one (counts check k p)
  unfolding tally
  piece-tally k (outside_byte true b) = plus-zero (same k noise) ∙ ap one (and-true (same k noise))
  piece-tally k (outside_byte false b) = ap one (and-false (same k noise))
  piece-tally k (outside_pair b) = plus-zero (same k noise)
  piece-tally k outside_7e = refl
  piece-tally k (frame o us e) = frame-tally k o us e
  piece-tally k (tail s us e) = refl

  -- a count of events is a count of pieces
  pub tally-count : (k : Counter) (ps : List Piece) → tally k (events_in rules check ps) ≡ count check k ps
  unfolding tally events_in count
  tally-count k [] = refl
  tally-count k (p ∷ ps) = tally-append k (events_of rules check p) (events_in rules check ps) ∙ rw (piece-tally k p, tally-count k ps)

  closed-bodies : (v : Verdict) (body : List ℕ) → bodies (counted openings ∷ closes v body ∷ []) ≡ body_if v body
  unfolding bodies
  closed-bodies runt body = refl
  closed-bodies checksum body = refl
  closed-bodies sound body = refl

  piece-bodies : (p : Piece) → bodies (events_of rules check p) ≡ sound_in check p
  unfolding bodies
  piece-bodies (outside_byte true b) = refl
  piece-bodies (outside_byte false b) = refl
  piece-bodies (outside_pair b) = refl
  piece-bodies outside_7e = refl
  piece-bodies (frame o us closed) = closed-bodies (verdict check (body_in us)) (body_in us)
  piece-bodies (frame o us (broken_by b)) = refl
  piece-bodies (frame o us (giant_by b)) = refl
  piece-bodies (frame o us (escaped_by b)) = refl
  piece-bodies (frame o us unfinished) = refl
  piece-bodies (frame o us unfinished-7e) = refl
  piece-bodies (tail s us e) = refl

  -- the bodies handed out are those of the sound frames
  pub bodies-sound : (ps : List Piece) → bodies (events_in rules check ps) ≡ sound_bodies check ps
  unfolding bodies events_in sound_bodies
  bodies-sound [] = refl
  bodies-sound (p ∷ ps) = bodies-append (events_of rules check p) (events_in rules check ps) ∙ rw (piece-bodies p, bodies-sound ps)

  -- both for the machine's run from fresh, whatever the reading
  pub tally-run : (k : Counter) (bs : List ℕ) (ps : List Piece) → Reading rules bs ps → tally k (run rules check bs (out idle)) ≡ count check k ps
  tally-run k bs ps r = rw (ledger rules check bs ps r) (tally-count k ps)

  pub bodies-run : (bs : List ℕ) (ps : List Piece) → Reading rules bs ps → bodies (run rules check bs (out idle)) ≡ sound_bodies check ps
  bodies-run bs ps r = rw (ledger rules check bs ps r) (bodies-sound ps)

  -- WHAT A STEP CAN DO TO THE BOOKS

  -- open frames before, events, open frames after
  data Beats : ℕ → List Event → ℕ → Type 0 where
    still : {n : ℕ} → Beats n [] n
    noisily : Beats 0 (counted noise ∷ []) 0
    opens : Beats 0 (counted openings ∷ []) 1
    shuts : {v : Verdict} {body : List ℕ} → Beats 1 (closes v body ∷ []) 0
    swells : Beats 1 (counted giants ∷ []) 0
    slips : Beats 1 (counted escaped ∷ []) 0
    bursts : Beats 1 (counted broken ∷ counted noise ∷ []) 0

  abbrev Beaten : Rest → ℕ → Type 0
  Beaten r b = Beats (open_in r) (beat rules check r b).events (open_in (beat rules check r b).to)

  beats-noises : (is : Bool) → Beats 0 (noises is) 0
  beats-noises true = noisily
  beats-noises false = still

  beaten-out : (l : Line) (b : ℕ) (t : Bool) → is7e b ≡ t → Beaten (out l) b
  beaten-out l b true e = rw e still
  beaten-out l b false e = rw e (beats-noises (is_noise l (leads_to b)))

  beaten-out-7e : (b : ℕ) (m : Meaning) → meaning b ≡ m → Beaten out_7e b
  beaten-out-7e b opener e = rw e opens
  beaten-out-7e b datum e = rw e noisily
  beaten-out-7e b closer e = rw e noisily
  beaten-out-7e b neither e = rw e noisily

  beaten-inside : (body : List ℕ) (b : ℕ) (t u : Bool) → is7e b ≡ t → ltb (length body) rules.limit ≡ u → Beaten (inside body) b
  beaten-inside body b true u e f = rw e still
  beaten-inside body b false true e f = rw (e, f) still
  beaten-inside body b false false e f = rw (e, f) swells

  beaten-inside-7e : (body : List ℕ) (b : ℕ) (m : Meaning) (u : Bool) → meaning b ≡ m → ltb (length body) rules.limit ≡ u → Beaten (inside_7e body) b
  beaten-inside-7e body b datum true e f = rw (e, f) still
  beaten-inside-7e body b datum false e f = rw (e, f) slips
  beaten-inside-7e body b opener u e f = rw e bursts
  beaten-inside-7e body b closer u e f = rw e shuts
  beaten-inside-7e body b neither u e f = rw e bursts

  beaten-over : (b : ℕ) (t : Bool) → is7e b ≡ t → Beaten over b
  beaten-over b true e = rw e still
  beaten-over b false e = rw e still

  beaten-over-7e : (b : ℕ) (m : Meaning) → meaning b ≡ m → Beaten over-7e b
  beaten-over-7e b opener e = rw e opens
  beaten-over-7e b datum e = rw e still
  beaten-over-7e b closer e = rw e still
  beaten-over-7e b neither e = rw e still

  beaten : (r : Rest) (b : ℕ) → Beaten r b
  beaten (out l) b = beaten-out l b (is7e b) refl
  beaten out_7e b = beaten-out-7e b (meaning b) refl
  beaten (inside body) b = beaten-inside body b (is7e b) (ltb (length body) rules.limit) refl refl
  beaten (inside_7e body) b = beaten-inside-7e body b (meaning b) (ltb (length body) rules.limit) refl refl
  beaten over b = beaten-over b (is7e b) refl
  beaten over-7e b = beaten-over-7e b (meaning b) refl

  -- the six endings among events
  abbrev pub ended : List Event → ℕ
  ended es = tally frames es + tally runts es + tally checksums es + tally giants es + tally escaped es + tally broken es

  step-balance : {m n : ℕ} {es : List Event} → Beats m es n → m + tally openings es ≡ ended es + n
  unfolding tally
  step-balance still = omega arith
  step-balance noisily = refl
  step-balance opens = refl
  step-balance (shuts {v = runt}) = refl
  step-balance (shuts {v = checksum}) = refl
  step-balance (shuts {v = sound}) = refl
  step-balance swells = refl
  step-balance slips = refl
  step-balance bursts = refl

  step-most : (k : Counter) {m n : ℕ} {es : List Event} → Beats m es n → tally k es ≤ 1
  unfolding tally
  step-most k still = omega arith
  step-most k noisily = omega (arith, one-most (same k noise))
  step-most k opens = omega (arith, one-most (same k openings))
  step-most k (shuts {v = v}) = omega (arith, one-most (same k (counter_of v)))
  step-most k swells = omega (arith, one-most (same k giants))
  step-most k slips = omega (arith, one-most (same k escaped))
  step-most k bursts = omega (arith, two (index_of k) 6 7 (λ e. omega arith), one-most (same k broken || same k noise))

  -- over a run: what was open and what is opened has ended or is open
  pub run-balance : (bs : List ℕ) (r : Rest) → open_in r + tally openings (run rules check bs r) ≡ ended (run rules check bs r) + open_in (reach rules check bs r)
  unfolding run reach tally
  run-balance [] r = omega arith
  run-balance (b ∷ bs) r =
      let es : List Event = (beat rules check r b).events in
      let t : Rest = (beat rules check r b).to in
      let fs : List Event = run rules check bs t in
      omega (arith, run-balance bs t, step-balance (beaten r b), tally-append openings es fs, tally-append frames es fs, tally-append runts es fs, tally-append checksums es fs, tally-append giants es fs, tally-append escaped es fs, tally-append broken es fs)

  pub run-most : (k : Counter) (bs : List ℕ) (r : Rest) → tally k (run rules check bs r) ≤ length bs
  unfolding run tally
  run-most k [] r = omega arith
  run-most k (b ∷ bs) r =
      let es : List Event = (beat rules check r b).events in
      let t : Rest = (beat rules check r b).to in
      omega (arith, run-most k bs t, step-most k (beaten r b), tally-append k es (run rules check bs t))

  -- THE BOOKS OF A READING

  -- openings are the six endings, and one more if a frame is still open
  pub balance : (bs : List ℕ) (ps : List Piece) → Reading rules bs ps → count check openings ps ≡ endings check ps + open_in (left ps)
  balance bs ps r =
      rw (← tally-count openings ps, ← tally-count frames ps, ← tally-count runts ps, ← tally-count checksums ps, ← tally-count giants ps, ← tally-count escaped ps, ← tally-count broken ps, ← ledger rules check bs ps r, ← rests rules check bs ps r)
      (omega (arith, run-balance bs (out idle)))

  -- no count is more than the bytes, so none wraps below 2^64 of them
  pub most : (k : Counter) (bs : List ℕ) (ps : List Piece) → Reading rules bs ps → count check k ps ≤ length bs
  most k bs ps r = rw (← tally-run k bs ps r) (run-most k bs (out idle))

  -- more bytes add to a count what the machine counts over them from where the first leave off
  pub count-more : (k : Counter) (g h : List ℕ) (ps qs : List Piece) → Reading rules g ps → Reading rules (g ++ h) qs
      → count check k qs ≡ count check k ps + tally k (run rules check h (left ps))
  count-more k g h ps qs r s =
      rw (← tally-run k (g ++ h) qs s, run-append rules check g h (out idle), tally-append k (run rules check g (out idle)) _, tally-run k g ps r, rests rules check g ps r)

  pub left-more : (g h : List ℕ) (ps qs : List Piece) → Reading rules g ps → Reading rules (g ++ h) qs → left qs ≡ reach rules check h (left ps)
  left-more g h ps qs r s = sym (rests rules check (g ++ h) qs s) ∙ reach-append rules check g h (out idle) ∙ ap (reach rules check h) (rests rules check g ps r)

  -- no count falls
  pub count-grows : (k : Counter) (g h : List ℕ) (ps qs : List Piece) → Reading rules g ps → Reading rules (g ++ h) qs → count check k ps ≤ count check k qs
  count-grows k g h ps qs r s = omega (arith, count-more k g h ps qs r s)

  -- and more bytes add sound frames after those of the first
  pub sound_bodies-more : (g h : List ℕ) (ps qs : List Piece) → Reading rules g ps → Reading rules (g ++ h) qs
      → sound_bodies check qs ≡ sound_bodies check ps ++ bodies (run rules check h (left ps))
  sound_bodies-more g h ps qs r s =
      rw (← bodies-run (g ++ h) qs s, run-append rules check g h (out idle), bodies-append (run rules check g (out idle)) _, bodies-run g ps r, rests rules check g ps r)

  -- a count since a reset is what the machine counts since
  pub tally-since : (k : Counter) (g h : List ℕ) (ps qs : List Piece) → Reading rules g ps → Reading rules (g ++ h) qs
      → tally k (run rules check h (left ps)) ≡ count_since check k ps qs
  tally-since k g h ps qs r s = omega (arith, count-more k g h ps qs r s)

  -- 01: "after it the balance may be off by the one frame that was open": what a reset after g leaves at g ++ h
  pub balance-since : (g h : List ℕ) (ps qs : List Piece) → Reading rules g ps → Reading rules (g ++ h) qs
      → count_since check openings ps qs + open_in (left ps) ≡ endings_since check ps qs + open_in (left qs)
  balance-since g h ps qs r s =
      rw (← tally-since openings g h ps qs r s, ← tally-since frames g h ps qs r s, ← tally-since runts g h ps qs r s, ← tally-since checksums g h ps qs r s, ← tally-since giants g h ps qs r s, ← tally-since escaped g h ps qs r s, ← tally-since broken g h ps qs r s, left-more g h ps qs r s)
      (omega (arith, run-balance h (left ps)))
