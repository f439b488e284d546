-- No listing has more records than a sheet, and otherwise the sheet is put together.
use Rattle.std.proofs.Common.{sym}
use Rattle.reader.proofs.ToldLaws.{told_is, none_listed}
use Rattle.reader.proofs.tell.Goals as goal

pub returns-in_err-put_records : goal.returns-in_err-put_records
returns-in_err-put_records c = rw c.from_residual.ensures (none_listed c.types-types.ensures c.in_err-put_records.ensures)

pub returns : goal.returns
returns c =
    rw (c.put_headed.ensures, c.as_slice.ensures.value, c.as_slice-2.ensures.value, c.in_ok-put_records.ensures)
    (sym (told_is c.types-types.ensures))
