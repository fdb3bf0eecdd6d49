-- What the code's requests and answers stand for.
use Rattle.std.specs.Prelude.{slice_index_or}
use Rattle.memory.specs.Names.{name_of}
use Rattle.memory.specs.Soundness.{Content}
use Rattle.memory.specs.Wiped.{zero_row}
use Rattle.store.specs.Parts.{part_of}
use Rattle.store.specs.Requests.{Query, read, size, look_up, walk, row, name, Update, create_file, create_directory, enter, remove, destroy, revoke, Ask, query, update, Told, granted, the_bytes, the_size, found, the_name, done}
use Rattle.store.specs.declared.request.Answer.{Answer}
use Rattle.store.specs.declared.request.Answer.TheVariants as told_by
use Rattle.store.specs.declared.request.Query.{Query as MadeQuery}
use Rattle.store.specs.declared.request.Query.TheVariants as queried
use Rattle.store.specs.declared.request.Request.{Request}
use Rattle.store.specs.declared.request.Request.TheVariants as requested
use Rattle.store.specs.declared.request.Update.{Update as MadeUpdate}
use Rattle.store.specs.declared.request.Update.TheVariants as updated

-- what a query asks, and what an update does
abbrev pub query_of : MadeQuery → Query
query_of queried.Read = read
query_of queried.Size = size
query_of (queried.LookUp bs) = look_up bs.now
query_of (queried.Walk path) = walk path.now
query_of (queried.Row n) = row n
query_of (queried.Name object) = name object.value

abbrev pub update_of : MadeUpdate → Update
update_of (updated.CreateFile bs secret) = create_file bs.now secret
update_of (updated.CreateDirectory secret) = create_directory secret
update_of (updated.Enter bs entry masks) = enter bs.now entry masks
update_of (updated.Remove bs) = remove bs.now
update_of updated.Destroy = destroy
update_of (updated.Revoke secret) = revoke secret

abbrev pub ask_of : Request → Ask
ask_of (requested.Query q) = query (query_of q)
ask_of (requested.Update u) = update (update_of u)

-- what an answer tells, over what memory holds
abbrev pub told_in : Content → Answer → Told
told_in m (told_by.Granted c) = granted c
told_in m (told_by.Part start len) = the_bytes (part_of start len m.area)
told_in m (told_by.Found c) = found c
told_in m (told_by.Name i) = the_name (name_of (slice_index_or m.rows i zero_row))
told_in m (told_by.Length n) = the_size n
told_in m told_by.Done = done
