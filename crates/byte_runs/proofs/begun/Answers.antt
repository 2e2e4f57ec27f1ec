-- `byte_runs::begun` counts the marks that follow none, byte by byte. Assumes nothing.
use Rattle.byte_runs.proofs.NoiseLaws.{begun-is}
use Rattle.byte_runs.proofs.begun.Goals as goal

pub returns : goal.returns
returns c = begun-is c.args.z c.args.was c.args.m
