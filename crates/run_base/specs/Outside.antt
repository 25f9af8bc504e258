-- What is told of the outside of a run at one moment. (This profile.)
use Rattle.rt_outside.specs.Store.{FilesState}
use Rattle.rt_outside.specs.Sink.{SinkState}

-- the files, the output and the error stream
pub record Outside : Type 0 where
  pub files : FilesState
  pub out : SinkState
  pub err : SinkState

abbrev pub outside : FilesState → SinkState → SinkState → Outside
outside files out err = record { files = files; out = out; err = err }
