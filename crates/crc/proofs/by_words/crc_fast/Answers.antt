-- `crc::by_words::crc_fast` is the check from any start: by the table or by words, and a check has 16 bits. Assumes nothing.
use mathlib.Core.Path.{subst, sym}
use Prim.Native.Nat.{ℕ, ◌^◌, ◌<◌}
use borrow.Author.Rules.{rules}
use Rattle.crc.proofs.Laws.{crc_from-lt}
use Rattle.crc.proofs.by_words.crc_fast.Goals as goal

pub overflow_cast-result : goal.overflow_cast-result
overflow_cast-result c = let a = c.args in
    record {
      fits =
          subst (λ (x : ℕ). x < 2 ^ 16) (sym c.crc_wide.ensures)
          (crc_from-lt a.buffer.now a.start (search rules) (λ k. (c.type_inv.buffer k).fits));
    }
