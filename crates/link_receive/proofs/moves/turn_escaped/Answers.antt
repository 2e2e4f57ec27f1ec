-- `link_receive::turn_escaped` is the turn after 7e inside a frame: 08 closes, a datum is a unit or the escaped overlong, any other breaks. Assumes nothing.
use Rattle.link_receive.proofs.Turns.{escape-push, escape-overlong, escape-break}
use Rattle.link_receive.proofs.moves.turn_escaped.Goals as goal

pub returns-then-len-lt-MAX_FRAME_SIZE : goal.returns-then-len-lt-MAX_FRAME_SIZE
returns-then-len-lt-MAX_FRAME_SIZE c = escape-push _ _ _ _ c.unescaped_byte.ensures _ c.in-Ok.is c.if-len-lt-MAX_FRAME_SIZE.true

pub returns-else-len-lt-MAX_FRAME_SIZE : goal.returns-else-len-lt-MAX_FRAME_SIZE
returns-else-len-lt-MAX_FRAME_SIZE c = escape-overlong _ _ _ _ c.unescaped_byte.ensures _ c.in-Ok.is c.if-len-lt-MAX_FRAME_SIZE.false

pub returns-in-Err : goal.returns-in-Err
returns-in-Err c = escape-break _ _ _ _ c.unescaped_byte.ensures c.in-Err.is c.if-b-eq8.false
