-- An area is divided into its packets and the rest in exactly one way, and `packets_of` is that way. Assumes nothing.
use Rattle.std.proofs.Common.{◌≡◌, ℕ, zero, suc, ◌+◌, ◌-◌, ◌<◌, ◌≤◌, Bool, true, false, cond, leb, List, [], ◌∷◌, ◌++◌, length, get_or, take, drop, sym, refl, ap, ◌∙◌, append_assoc, append-nil, le_of_suc-le-suc, zero-lt-suc, arith, length-append, length-drop, take-append-drop, length-take-le, get_or-take, take_at, drop_at, le-leb, leb-false, leb-true}
use lib.ListN.{get_or-append}
use borrow.Author.Tests.{lt-leb}
use Rattle.network.specs.Split.{Split, header_size, packet_size, Whole, put, packets_past, packets_of, joined, Divides}

past-drop : (k : ℕ) (a : List ℕ) → packets_past k a ≡ packets_of (drop k a)
unfolding packets_past
past-drop zero [] = refl
past-drop zero (b ∷ s) = refl
past-drop (suc k) [] = refl
past-drop (suc k) (b ∷ s) = past-drop k s

-- the area's first packet, and the packets of what follows it
pub packets_of-front : (a : List ℕ) → 0 < length a → packets_of a ≡ cond (leb (packet_size a) (length a)) (put (take (packet_size a) a) (packets_of (drop (packet_size a) a))) (record { packets = []; rest = a })
unfolding packets_past
packets_of-front [] h = absurd (omega arith)
packets_of-front (b ∷ s) h =
    let n = packet_size (b ∷ s) in
    let e : n ≡ suc (n - 1) = omega arith in
    let f : packets_past (n - 1) s ≡ packets_of (drop n (b ∷ s)) = past-drop (n - 1) s ∙ ap (λ (k : ℕ). packets_of (drop k (b ∷ s))) (sym e) in
    ap (λ (r : Split). cond (leb n (length (b ∷ s))) (put (take n (b ∷ s)) r) (record { packets = []; rest = b ∷ s })) f

pub packets_of-packet : (a : List ℕ) → packet_size a ≤ length a → packets_of a ≡ put (take (packet_size a) a) (packets_of (drop (packet_size a) a))
packets_of-packet a h = packets_of-front a (omega arith) ∙ rw (le-leb (packet_size a) (length a) h)

pub packets_of-rest : (a : List ℕ) → length a < packet_size a → packets_of a ≡ record { packets = []; rest = a }
unfolding packets_past
packets_of-rest [] h = refl
packets_of-rest (b ∷ s) h = packets_of-front (b ∷ s) (omega arith) ∙ rw (lt-leb (packet_size (b ∷ s)) (length (b ∷ s)) h)

-- a packet taken off the front is whole
pub whole-front : (a : List ℕ) → packet_size a ≤ length a → Whole (take (packet_size a) a)
whole-front a h =
    let e : get_or (take (packet_size a) a) 6 0 ≡ get_or a 6 0 = get_or-take (packet_size a) a 6 0 (omega arith) in
    ap (λ (k : ℕ). header_size + k) e ∙ sym (length-take-le (packet_size a) a h)

module _ (a : List ℕ) (h : packet_size a ≤ length a) (d : Divides (drop (packet_size a) a) (packets_of (drop (packet_size a) a))) where
  divides-more : Divides a (put (take (packet_size a) a) (packets_of (drop (packet_size a) a)))
  divides-more =
      record {
        joins = append_assoc (take (packet_size a) a) _ _ ∙ ap (λ (r : List ℕ). take (packet_size a) a ++ r) d.joins ∙ take-append-drop (packet_size a) a;
        whole = each;
        short = d.short;
      }
    where
      each : (i : ℕ) → i < suc (length (packets_of (drop (packet_size a) a)).packets) → Whole (get_or (take (packet_size a) a ∷ (packets_of (drop (packet_size a) a)).packets) i [])
      each zero l = whole-front a h
      each (suc i) l = d.whole i (le_of_suc-le-suc l)

divides-last : (a : List ℕ) → length a < packet_size a → Divides a (record { packets = []; rest = a })
divides-last a h = record { joins = refl; whole = λ i l. absurd (omega arith); short = h }

divides-within : (n : ℕ) (a : List ℕ) → length a ≤ n → Divides a (packets_of a)
divides-within zero a l = rw (packets_of-rest a (omega arith)) (divides-last a (omega arith))
divides-within (suc n) a l = go (λ h. divides-within n (drop (packet_size a) a) (simp length-drop (omega arith))) (leb (packet_size a) (length a)) refl
  where
    go : (packet_size a ≤ length a → Divides (drop (packet_size a) a) (packets_of (drop (packet_size a) a))) → (t : Bool) → leb (packet_size a) (length a) ≡ t → Divides a (packets_of a)
    go r true e = let h : packet_size a ≤ length a = leb-true (packet_size a) (length a) e in rw (packets_of-packet a h) (divides-more a h (r h))
    go r false e = let h : length a < packet_size a = leb-false (packet_size a) (length a) e in rw (packets_of-rest a h) (divides-last a h)

-- `packets_of` divides the area ..
pub packets_of-divides : (a : List ℕ) → Divides a (packets_of a)
packets_of-divides a = divides-within (length a) a (omega arith)

-- .. and nothing else does
module _ (p x : List ℕ) (w : Whole p) where
  size-front : packet_size (p ++ x) ≡ length p
  size-front = ap (λ (k : ℕ). header_size + k) (get_or-append p x 0 6 (omega arith)) ∙ w

  front-taken : packets_of (p ++ x) ≡ put p (packets_of x)
  front-taken =
      packets_of-packet (p ++ x) (rw size-front (simp length-append (omega arith)))
      ∙ rw (size-front, take_at p x (length p) refl, drop_at p x (length p) refl)

once : (ps : List (List ℕ)) (r : List ℕ) → ((i : ℕ) → i < length ps → Whole (get_or ps i [])) → length r < packet_size r → packets_of (joined ps ++ r) ≡ record { packets = ps; rest = r }
once [] r w s = packets_of-rest r s
once (p ∷ ps) r w s =
    ap packets_of (append_assoc p (joined ps) r)
    ∙ front-taken p (joined ps ++ r) (w 0 (zero-lt-suc (length ps)))
    ∙ ap (put p) (once ps r (λ i h. w (suc i) (omega arith)) s)

pub packets_of-once : (a : List ℕ) (s : Split) → Divides a s → packets_of a ≡ s
packets_of-once a s d = ap packets_of (sym d.joins) ∙ once s.packets s.rest d.whole d.short

-- one whole packet and nothing more: an event record's packet is one
pub packets_of-one : (p : List ℕ) → Whole p → packets_of p ≡ record { packets = p ∷ []; rest = [] }
packets_of-one p w = packets_of-once p _ (record { joins = append-nil (p ++ []) ∙ append-nil p; whole = one; short = omega arith })
  where
    one : (i : ℕ) → i < 1 → Whole (get_or (p ∷ []) i [])
    one zero h = w
    one (suc i) h = absurd (omega arith)
