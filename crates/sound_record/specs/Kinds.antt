-- The kinds of event records by their numbers. Assumes nothing.
use Rattle.std.specs.Prelude.{ℕ, ◌≡◌, ◌≢◌, Result, MatchResult}
use Rattle.sound_record.specs.declared.Kind.{Kind}
use Rattle.sound_record.specs.declared.Kind.TheVariants.{EnumerationStarted, Identity, VersionText, EnumerationEnded, SlotCaptured, SlotCounter, Packet, Command}
use Rattle.sound_record.specs.declared.UnknownKind.{UnknownKind}

-- 01, "Event record": kinds: 1 enumeration started; 2 identity, long address; 3 version text; 4 enumeration ended; 5 slot captured;
-- 6 slot counter and repeat mark; 7 packet as it stood in the area; 8 command
abbrev pub number_of : Kind → ℕ
number_of EnumerationStarted = 1
number_of Identity = 2
number_of VersionText = 3
number_of EnumerationEnded = 4
number_of SlotCaptured = 5
number_of SlotCounter = 6
number_of Packet = 7
number_of Command = 8

-- what a number names: the kind that has it, or nothing, if no kind does
abbrev pub Numbered : ℕ → Result Kind UnknownKind → Type 0
Numbered n r = MatchResult r (λ kind. number_of kind ≡ n) (λ _. (kind : Kind) → number_of kind ≢ n)
