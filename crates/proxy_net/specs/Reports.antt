-- What an event of the system reports.
use Rattle.std.specs.Prelude.{Bool, ◌||◌}
use Rattle.mio.specs.Event.{event_token, is_readable, is_writable, is_error, is_read_closed, is_write_closed}
use Rattle.mio.specs.declared.event.event.Event.{Event}
use Rattle.proxy_net.specs.declared.reports.Report.{Report}

-- a read wouldn't wait
abbrev pub tells_read : Event → Bool
tells_read event = (is_error event || is_readable event) || is_read_closed event

-- a write wouldn't wait
abbrev pub tells_write : Event → Bool
tells_write event = (is_error event || is_writable event) || is_write_closed event

-- no bytes come after those that are there
abbrev pub tells_end : Event → Bool
tells_end event = is_error event || is_read_closed event

-- nobody reads what is written any more
abbrev pub tells_close : Event → Bool
tells_close event = is_error event || is_write_closed event

abbrev pub report_of : Event → Report
report_of event = record { number = (event_token event).0; readable = tells_read event; writable = tells_write event; ending = tells_end event; closed = tells_close event }
