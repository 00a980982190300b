-- The error of an open, from the database's error.
use Rattle.sqlite.specs.declared.error.Error.{Error}
use Rattle.sqlite.specs.declared.error.Error.TheVariants.{SqliteFailure}
use Rattle.sqlite.specs.declared.error.ErrorCode.{ErrorCode}
use Rattle.sqlite.specs.declared.error.ErrorCode.TheVariants.{DatabaseBusy, CannotOpen, NotADatabase, DatabaseCorrupt, OutOfMemory}
use Rattle.fc_sql.specs.declared.error.OpenError.{OpenError}
use Rattle.fc_sql.specs.declared.error.OpenError.TheVariants as error

abbrev pub error_of_code : ErrorCode → OpenError
error_of_code DatabaseBusy = error.Busy
error_of_code CannotOpen = error.CannotOpen
error_of_code NotADatabase = error.Damaged
error_of_code DatabaseCorrupt = error.Damaged
error_of_code OutOfMemory = error.Memory
error_of_code code = error.Failed (SqliteFailure code)

abbrev pub open_error : Error → OpenError
open_error (SqliteFailure code) = error_of_code code
open_error e = error.Failed e
