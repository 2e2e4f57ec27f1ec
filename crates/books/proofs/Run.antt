-- A run of steps is a run of the grammar's machine, and so what bytes lead to, block by block. Over any check. Assumes nothing.
use mathlib.Core.Path.{◌≡◌, refl, sym, ◌∙◌, ap}
use Prim.Native.Nat.{ℕ, ◌+◌, ◌<◌, ◌%◌, ◌^◌}
use mathlib.Core.Bool.{Bool, true, false, cond}
use mathlib.Core.List.{List, [], ◌∷◌, ◌++◌, map, append_assoc}
use native.Mathlib.Omega.{arith}
use lib.ListN.{length}
use borrow.Author.Tests.{eqb-true, eqb-false}
use Rattle.laws.specs.Wrap.{raised}
use Rattle.link.specs.Wire.{frame_of}
use Rattle.link.specs.Wire as wire
use Rattle.reading.specs.Counters.{Counter, index_of, same}
use Rattle.reading.specs.Counters as k
use Rattle.reading.specs.Grammar.{Piece, Reading}
use Rattle.reading.specs.Counts.{one, count_since, sound_bodies, sound_frames, left}
use Rattle.reading.proofs.Reader.{pieces_of}
use Rattle.reading.proofs.Once.{the-reading}
use Rattle.reading.proofs.Machine.{Event, Beat, beat, run, reach}
use Rattle.reading.proofs.Books.{counter_of_event, tally, bodies, bodies-append, count-more, left-more, count-grows, sound_bodies-more, most}
use Rattle.link_receive.specs.declared.Receiver.{Receiver}
use Rattle.link_receive.specs.declared.Tallies.{Tallies}
use Rattle.link_receive.specs.Tally.{tally_of, raise}
use Rattle.link_receive.specs.Step.{room, rules_of, Within, step_of}
use Rattle.link_receive.proofs.Rules.{rules_of-step}
use Rattle.link_feed.specs.Drain.{drain_of, frames_of}
use Rattle.link_feed.proofs.Drains.{rules_of-drain}
use Rattle.books.specs.Stands.{rest_at, Since}
use Rattle.books.proofs.Link.{raised_by, Linked, link}

raised_by-append : (es fs : List Event) (t : Tallies) → raised_by (es ++ fs) t ≡ raised_by fs (raised_by es t)
unfolding raised_by
raised_by-append [] fs t = refl
raised_by-append (e ∷ es) fs t = raised_by-append es fs (raise (counter_of_event e) t)

map-append : (xs ys : List (List ℕ)) → map frame_of (xs ++ ys) ≡ map frame_of xs ++ map frame_of ys
map-append [] ys = refl
map-append (x ∷ xs) ys = ap (λ (l : List wire.Frame). frame_of x ∷ l) (map-append xs ys)

tally_of-raise : (j i : Counter) (t : Tallies) → tally_of i (raise j t) ≡ cond (same j i) (raised (tally_of i t)) (tally_of i t)
tally_of-raise j k.openings t = refl
tally_of-raise j k.frames t = refl
tally_of-raise j k.runts t = refl
tally_of-raise j k.checksums t = refl
tally_of-raise j k.giants t = refl
tally_of-raise j k.escaped t = refl
tally_of-raise j k.broken t = refl
tally_of-raise j k.noise t = refl

same-sym : (j i : Counter) → same j i ≡ same i j
same-sym j i = go (same j i) (same i j) refl refl
  where
    go : (x y : Bool) → same j i ≡ x → same i j ≡ y → x ≡ y
    go true true e f = refl
    go false false e f = refl
    go true false e f = absurd (eqb-false (index_of i) (index_of j) f (sym (eqb-true (index_of j) (index_of i) e)))
    go false true e f = absurd (eqb-false (index_of j) (index_of i) e (sym (eqb-true (index_of i) (index_of j) f)))

raised-mod : (s : Bool) (x c : ℕ) → x ≡ c % 2 ^ 64 → cond s (raised x) x ≡ (c + one s) % 2 ^ 64
raised-mod true x c e = rw e (omega arith)
raised-mod false x c e = rw e (omega arith)

-- events raise a tally by as many as there are for its counter, around 2^64
tally_of-raised_by : (es : List Event) (t : Tallies) (i : Counter) (c : ℕ) → tally_of i t ≡ c % 2 ^ 64 → tally_of i (raised_by es t) ≡ (c + tally i es) % 2 ^ 64
unfolding raised_by tally
tally_of-raised_by [] t i c e = e ∙ omega arith
tally_of-raised_by (x ∷ es) t i c e =
    tally_of-raised_by es (raise (counter_of_event x) t) i (c + one (same i (counter_of_event x)))
    (tally_of-raise (counter_of_event x) i t ∙ rw (same-sym (counter_of_event x) i) (raised-mod (same i (counter_of_event x)) (tally_of i t) c e))
    ∙ omega arith

module _ (check : List ℕ → ℕ) where
  -- what a drained run is, by the machine
  pub record Runs (r : Receiver) (bs : List ℕ) : Type 0 where
    pub within : Within (drain_of check r bs)
    pub sized : length (drain_of check r bs).body ≡ room
    pub stands : rest_at (drain_of check r bs) ≡ reach (rules_of r) check bs (rest_at r)
    pub raises : (drain_of check r bs).tallies ≡ raised_by (run (rules_of r) check bs (rest_at r)) r.tallies
    pub hands : frames_of check r bs ≡ map frame_of (bodies (run (rules_of r) check bs (rest_at r)))

  pub runs : (bs : List ℕ) (r : Receiver) → Within r → length r.body ≡ room → Runs r bs
  unfolding drain_of frames_of run reach raised_by bodies
  runs [] r h l = record { within = h; sized = l; stands = refl; raises = refl; hands = refl }
  runs (b ∷ bs) r h l =
      let y : Beat = beat (rules_of r) check (rest_at r) b in
      let q : Receiver = (step_of check r b).next in
      let s : Linked (rules_of r) (step_of check r b) y r.tallies = link check r b h l in
      let same : rules_of q ≡ rules_of r = rules_of-step check r b in
      let ih : Runs q bs = runs bs q (rw same s.within) s.sized in
      record {
        within = ih.within;
        sized = ih.sized;
        stands = ih.stands ∙ rw (same, s.stands);
        raises = ih.raises ∙ rw (same, s.stands, s.raises) (sym (raised_by-append y.events (run (rules_of r) check bs y.to) r.tallies));
        hands = rw (ih.hands, same, s.hands, s.stands) (sym (ap (map frame_of) (bodies-append y.events (run (rules_of r) check bs y.to)) ∙ map-append (bodies y.events) (bodies (run (rules_of r) check bs y.to))));
      }

  module _ (g h : List ℕ) (r : Receiver) (a : Since check g h r) where
    -- the pieces of the bytes and a block more
    abbrev whole : List ℕ → List Piece
    whole s = pieces_of (rules_of r) (g ++ (h ++ s))

    whole-read : (s : List ℕ) → Reading (rules_of r) ((g ++ h) ++ s) (whole s)
    whole-read s = rw (append_assoc g h s) (the-reading (rules_of r) (g ++ (h ++ s))).is

    -- a block more, whatever the cuts
    pub since-more : (s : List ℕ) → Since check g (h ++ s) (drain_of check r s)
    since-more s =
        let u : Runs r s = runs s r a.within a.sized in
        let same : rules_of (drain_of check r s) ≡ rules_of r = rules_of-drain check s r in
        record {
          before = a.before;
          pieces = whole s;
          reading_before = rw same a.reading_before;
          reading = rw same (the-reading (rules_of r) (g ++ (h ++ s)));
          within = u.within;
          sized = u.sized;
          stands = u.stands ∙ rw a.stands (sym (left-more (rules_of r) check (g ++ h) s a.pieces (whole s) a.reading.is (whole-read s)));
          tallied = λ j.
              ap (tally_of j) u.raises
              ∙ tally_of-raised_by (run (rules_of r) check s (rest_at r)) r.tallies j (count_since check j a.before a.pieces) (a.tallied j)
              ∙ rw a.stands (ap (λ (n : ℕ). n % 2 ^ 64) (grown j));
        }
      where
        grown : (j : Counter) → count_since check j a.before a.pieces + tally j (run (rules_of r) check s (left a.pieces)) ≡ count_since check j a.before (whole s)
        grown j = omega (arith, count-more (rules_of r) check j (g ++ h) s a.pieces (whole s) a.reading.is (whole-read s), count-grows (rules_of r) check j g h a.before a.pieces a.reading_before.is a.reading.is)

    -- the frames handed out over a block are the sound ones that it adds
    pub frames-more : (s : List ℕ) (qs : List Piece) → Reading (rules_of r) (g ++ (h ++ s)) qs → sound_frames check qs ≡ sound_frames check a.pieces ++ frames_of check r s
    frames-more s qs x =
        let u : Runs r s = runs s r a.within a.sized in
        let y : Reading (rules_of r) ((g ++ h) ++ s) qs = rw (append_assoc g h s) x in
        ap (map frame_of) (sound_bodies-more (rules_of r) check (g ++ h) s a.pieces qs a.reading.is y)
        ∙ map-append (sound_bodies check a.pieces) (bodies (run (rules_of r) check s (left a.pieces)))
        ∙ rw (u.hands, a.stands)

    -- with fewer than 2^64 bytes each tally is what its count has grown by
    pub tallies-exact : length (g ++ h) < 2 ^ 64 → (j : Counter) → tally_of j r.tallies ≡ count_since check j a.before a.pieces
    tallies-exact n j = a.tallied j ∙ omega (arith, most (rules_of r) check j (g ++ h) a.pieces a.reading.is)
