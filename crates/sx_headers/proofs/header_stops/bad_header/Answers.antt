use Rattle.std.proofs.Common.{ap}
use Rattle.sx_headers.specs.HeaderStops.{header_stop}
use Rattle.sx_headers.proofs.StopsTold.{is_told}
use Rattle.sx_headers.proofs.header_stops.bad_header.Goals as goal

pub returns-in-NotUtf8 : goal.returns-in-NotUtf8
returns-in-NotUtf8 c =
    is_told _ _ c.refused.result (ap (header_stop c.args.file.now) c.in-NotUtf8.is)
    c.refused.ensures

pub returns-in-Header : goal.returns-in-Header
returns-in-Header c =
    is_told _ _ c.bad_line_of_header.result (ap (header_stop c.args.file.now) c.in-Header.is)
    c.bad_line_of_header.ensures

pub returns-in-Version : goal.returns-in-Version
returns-in-Version c =
    is_told _ _ c.refused-in-Version.result (ap (header_stop c.args.file.now) c.in-Version.is)
    c.refused-in-Version.ensures
