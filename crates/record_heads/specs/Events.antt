-- What an event is, by its head and what it lists.
use Rattle.year.specs.declared.Listing.{Listing}
use Rattle.year.specs.declared.Event.{Event}
use Rattle.record_heads.specs.declared.EventHead.{EventHead}

abbrev pub event_of : EventHead → Listing → Event
event_of e l = record { area = e.area; month = e.month; period = e.period; dual = e.dual; listing = l }
