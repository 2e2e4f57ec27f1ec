-- UTF-8, as RFC 3629, section 4, prints it. Assumes nothing.
use Rattle.std.specs.Prelude.{ℕ, ◌≤◌, ◌<◌, List, [], ◌∷◌, length}

-- %xLO-HI
abbrev pub Within : ℕ → ℕ → ℕ → Type 0
Within lo hi b = (lo ≤ b) × (b ≤ hi)

-- UTF8-tail = %x80-BF
abbrev pub Tail : ℕ → Type 0
Tail b = Within 0x80 0xbf b

-- UTF8-octets = *( UTF8-char ), UTF8-char = UTF8-1 / UTF8-2 / UTF8-3 / UTF8-4: a case for each alternative, in the RFC's order.
-- UTF8-1 = %x00-7F
-- UTF8-2 = %xC2-DF UTF8-tail
-- UTF8-3 = %xE0 %xA0-BF UTF8-tail / %xE1-EC 2( UTF8-tail ) / %xED %x80-9F UTF8-tail / %xEE-EF 2( UTF8-tail )
-- UTF8-4 = %xF0 %x90-BF 2( UTF8-tail ) / %xF1-F3 3( UTF8-tail ) / %xF4 %x80-8F 2( UTF8-tail )
pub data Utf8 : List ℕ → Type 0 where
  none : Utf8 []
  utf8_1 : {a : ℕ} {s : List ℕ} → Within 0x00 0x7f a → Utf8 s → Utf8 (a ∷ s)
  utf8_2 : {a b : ℕ} {s : List ℕ} → Within 0xc2 0xdf a → Tail b → Utf8 s → Utf8 (a ∷ b ∷ s)
  utf8_3_e0 : {a b c : ℕ} {s : List ℕ} → Within 0xe0 0xe0 a → Within 0xa0 0xbf b → Tail c → Utf8 s → Utf8 (a ∷ b ∷ c ∷ s)
  utf8_3_e1 : {a b c : ℕ} {s : List ℕ} → Within 0xe1 0xec a → Tail b → Tail c → Utf8 s → Utf8 (a ∷ b ∷ c ∷ s)
  utf8_3_ed : {a b c : ℕ} {s : List ℕ} → Within 0xed 0xed a → Within 0x80 0x9f b → Tail c → Utf8 s → Utf8 (a ∷ b ∷ c ∷ s)
  utf8_3_ee : {a b c : ℕ} {s : List ℕ} → Within 0xee 0xef a → Tail b → Tail c → Utf8 s → Utf8 (a ∷ b ∷ c ∷ s)
  utf8_4_f0 : {a b c d : ℕ} {s : List ℕ} → Within 0xf0 0xf0 a → Within 0x90 0xbf b → Tail c → Tail d → Utf8 s → Utf8 (a ∷ b ∷ c ∷ d ∷ s)
  utf8_4_f1 : {a b c d : ℕ} {s : List ℕ} → Within 0xf1 0xf3 a → Tail b → Tail c → Tail d → Utf8 s → Utf8 (a ∷ b ∷ c ∷ d ∷ s)
  utf8_4_f4 : {a b c d : ℕ} {s : List ℕ} → Within 0xf4 0xf4 a → Within 0x80 0x8f b → Tail c → Tail d → Utf8 s → Utf8 (a ∷ b ∷ c ∷ d ∷ s)

-- 01, "Transport": version text must be non-empty UTF-8 (RFC 3629)
abbrev pub Text : List ℕ → Type 0
Text s = (0 < length s) × Utf8 s
