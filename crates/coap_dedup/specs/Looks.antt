-- The class of a request, from the result of the search for it.
use Rattle.coap_dedup.specs.declared.exchanges.Looked.{Looked}
use Rattle.coap_dedup.specs.declared.exchanges.Looked.TheVariants as looks
use Rattle.coap_dedup.specs.declared.exchanges.Room.{Room}
use Rattle.coap_dedup.specs.Exchanges.{Look, IsBusy, IsAgain, IsSilent, new_by}

-- the class of a request: `room` decides it if the search found no stored request.
abbrev pub look_of : Looked → Room → Look
look_of looks.New room = new_by room
look_of looks.Busy room = IsBusy
look_of (looks.Again bytes) room = IsAgain bytes.items
look_of looks.Silent room = IsSilent
