-- What contracts see of a request.
use Rattle.fx_c_command.specs.Words as words
use Rattle.fx_c_command.specs.declared.words.TextRequest.{TextRequest}

-- the definition's request
abbrev pub request_view : TextRequest → words.TextRequest
request_view r = words.request r.text r.file.now
